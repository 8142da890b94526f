-- What a draw answers, and the outcome that it leaves in the area.
use Rattle.std.proofs.Common.{◌≡◌, ℕ, ◌≤◌, cond, leb, [], ◌∷◌, Some, None, Ok, Err, Option, Result, sym, refl, ap, ◌∙◌, subst, inl, inr, arith}
use Rattle.std.proofs.lemmas.Bool.{cases_Bool, leb-true, cond-true, cond-false}
use Rattle.model.specs.Trees.{Tree as TheTree, nodes}
use Rattle.model.specs.Meaning.{Meaning, Obeys}
use Rattle.model.specs.Faults.{first_fault}
use Rattle.model.specs.Round.{Outcome, round}
use Rattle.model.specs.Safety.{Ready}
use Rattle.model.specs.Theorems.{MadeOf, WellFormedOutcome}
use Rattle.model.proofs.Faults.{obeys_from}
use Rattle.model.proofs.Theorems.{outcome_is_well_formed}
use Rattle.refusals.specs.declared.Refusal.{Refusal}
use Rattle.refusals.specs.declared.Reason.TheVariants as reason
use Rattle.refusals.specs.declared.Whose.{Whose}
use Rattle.refusals.specs.declared.Whose.TheVariants as whose
use Rattle.refusals.specs.Numbers.{refused}
use Rattle.records.specs.Reading.{then, passed}
use Rattle.obeying.specs.Lawful.{faulty, lawful}
use Rattle.stored.specs.Words.{Holds}
use Rattle.area.specs.Views.{view, limit as limit_in, Only}
use Rattle.area.specs.declared.types.Area.{Area}
use Rattle.tables.specs.declared.Table.{Table}
use Rattle.tables.specs.declared.Table.TheVariants.{Archive, Field, Bench}
use Rattle.area.specs.declared.regions.Region.TheVariants.{Tree, New}
use Rattle.area.proofs.Laws.{limit_small}
use Rattle.editing.proofs.Carried.{carried_holds}
use Rattle.editing.proofs.Grafts.{held_from}
use Rattle.merging.specs.Tables.{Sizes}
use Rattle.merging.specs.Tables.{tree_of}
use Rattle.tables.specs.Pick.{pick}
use Rattle.merging.specs.Held.{Held, Merged}
use Rattle.ledger.specs.Answers.{both_obey, fits, all_fit, draw_answer}
use Rattle.ledger.proofs.Sound.{Sound}
use Rattle.service.specs.declared.types.File.{File}
use Rattle.service.specs.Keeping.{Kept, trees_in}
use Rattle.service.specs.Service.{trees, limit, Same}
use Rattle.service.proofs.Chains.{ok_first, err_first, passed_ok, passed_err, not_both}
use Rattle.service.proofs.Once.{kept_trees, kept_itself}
use Rattle.service.proofs.Files.{kept}

-- A chain that ends well went well at first, and on from there.
pub then_ok : {X Y E : Type 0} (x : Result X E) (k : X → Result Y E) {v : Y} → then x k ≡ Ok v → (u : X) × (x ≡ Ok u) × (k u ≡ Ok v)
then_ok (Ok u) k e = (u, refl, e)
then_ok (Err d) k e = not_both (sym e)

lawful_obeys : (m : Meaning) (c : Option ℕ) (w : Whose) (t : TheTree) {u : TheTree} → lawful m c w t ≡ Ok u → Obeys m c t
lawful_obeys m c w t {u} e = go (first_fault m c t) refl e
  where
    go : (o : Option ℕ) → first_fault m c t ≡ o → faulty w t o ≡ Ok u → Obeys m c t
    go None q e = obeys_from m c t 0 q
    go (Some n) q e = not_both (sym e)

-- A round may rely on trees that are kept, once both copies are found to obey.
pub ready : (m : Meaning) {a : Area} {n : Sizes} {s : Outcome} → Kept a Tree n s
    → Ok (tt {0}) ≡ passed (tt {0}) (both_obey m s) → Sound m s
ready m {s = s} h e =
    let first = then_ok (lawful m (Some 0) whose.Field s.field) _ (passed_ok (both_obey m s) e).1 in
    let second = then_ok (lawful m (Some 0) whose.Bench s.bench) _ first.2 in
    record {
      archive_formed = h.archive.begins.well_formed;
      field_formed = h.field.begins.well_formed;
      bench_formed = h.bench.begins.well_formed;
      field_obeys = lawful_obeys m (Some 0) whose.Field s.field first.1;
      bench_obeys = lawful_obeys m (Some 0) whose.Bench s.bench second.1;
    }

pub held : {a : Area} {n : Sizes} {s : Outcome} → Kept a Tree n s → Held a n s.archive s.field s.bench
held h =
    record {
      archive = h.archive;
      field = h.field;
      bench = h.bench;
      archive_few = h.archive_few;
      field_few = h.field_few;
      bench_few = h.bench_few;
    }

-- The test of one tree of an outcome, told by its number of nodes.
abbrev pub fit_answer : ℕ → Whose → ℕ → Result (Unit {0}) Refusal
fit_answer l w k = cond (leb k l) (Ok tt) (Err (refused reason.Outcome w k))

module _ (l : ℕ) (w : Whose) (k : ℕ) (t : TheTree) (e : k ≡ nodes t) where
  fit_tells : fit_answer l w k ≡ passed (tt {0}) (fits l w t)
  fit_tells =
      ap (fit_answer l w) e
      ∙ elim (cases_Bool (leb (nodes t) l)) [
        | inl y ↦ cond-true _ _ _ y ∙ sym (ap (passed (tt {0})) (cond-true _ _ _ y))
        | inr n ↦ cond-false _ _ _ n ∙ sym (ap (passed (tt {0})) (cond-false _ _ _ n))
      ]

  fit_refused : {v : Refusal} → Err v ≡ fit_answer l w k → fits l w t ≡ Err v
  fit_refused f = passed_err (fits l w t) (f ∙ fit_tells)

  fit_passed : Ok (tt {0}) ≡ fit_answer l w k → (fits l w t ≡ Ok t) × (nodes t ≤ l)
  fit_passed f =
      elim (cases_Bool (leb (nodes t) l)) [
        | inl y ↦ (cond-true _ _ _ y, leb-true (nodes t) l y)
        | inr n ↦ not_both (f ∙ ap (fit_answer l w) e ∙ cond-false _ _ _ n)
      ]

abbrev came_out : Meaning → Outcome → Outcome
came_out m s = round m s.archive s.field s.bench

abbrev whose_at : Table → Whose
whose_at Archive = whose.Archive
whose_at Field = whose.Field
whose_at Bench = whose.Bench

made : {m : Meaning} {a b : TheTree} {r : Outcome} (t : Table) → WellFormedOutcome m a b r → MadeOf a b (tree_of t r)
made Archive w = w.archive_made
made Field w = w.field_made
made Bench w = w.bench_made

-- What a round may rely on, from a file g with the trees of f, whose copies were found to obey.
module _ (m : Meaning) (f g : File) (obeyed : Ok (tt {0}) ≡ passed (tt {0}) (both_obey m (trees f))) (same : Same f g) where
  kept_on : Kept g.area Tree g.sizes (trees f)
  kept_on = subst (Kept g.area Tree g.sizes) same.trees_stay (kept g)

  pub given : (o : TheTree) × (x : TheTree) × (y : TheTree) × Held g.area g.sizes o x y × Ready m (Some 0) o x y
  given =
      let s = trees f in
      (s.archive, s.field, s.bench, held kept_on, ready m (kept f) obeyed)

-- The round of those trees was written into the area b, whose limit is l.
pub record Drew (m : Meaning) (f g : File) (b : Area) (new : Sizes) (l : ℕ) : Type 0 where
  pub obeyed : Ok (tt {0}) ≡ passed (tt {0}) (both_obey m (trees f))
  pub same : Same f g
  pub merges : (o x y : TheTree) → Held g.area g.sizes o x y → Ready m (Some 0) o x y → Merged (round m o x y) b new
  pub limit_is : l ≡ limit_in b
  pub same_limit : limit_in b ≡ limit_in g.area

module _ {m : Meaning} {f g : File} {b : Area} {new : Sizes} {l : ℕ} (d : Drew m f g b new l) where
  abbrev s : Outcome
  s = trees f

  abbrev out : Outcome
  out = came_out m s

  sound : Sound m s
  sound = ready m (kept f) d.obeyed

  formed : WellFormedOutcome m s.field s.bench out
  formed = outcome_is_well_formed m s.archive s.field s.bench sound

  merged : Merged out b new
  merged = d.merges s.archive s.field s.bench (held (kept_on m f g d.obeyed d.same)) sound

  drawn : draw_answer m (limit f) s ≡ all_fit l out
  drawn = ok_first _ (passed_ok (both_obey m s) d.obeyed).1 ∙ ap (λ k. all_fit k out) (sym (d.limit_is ∙ d.same_limit ∙ d.same.limit_stays))

  module _ (t : Table) where
    fails : {v : Refusal} → Err v ≡ fit_answer l (whose_at t) (pick t new) → fits l (whose_at t) (tree_of t out) ≡ Err v
    fails f = fit_refused l (whose_at t) (pick t new) (tree_of t out) (merged.counts t) f

    passes : Ok (tt {0}) ≡ fit_answer l (whose_at t) (pick t new)
        → (fits l (whose_at t) (tree_of t out) ≡ Ok (tree_of t out)) × (nodes (tree_of t out) ≤ l)
    passes f = fit_passed l (whose_at t) (pick t new) (tree_of t out) (merged.counts t) f

    new_holds : nodes (tree_of t out) ≤ l → Holds (view b (New t)) (pick t new) (tree_of t out)
    new_holds few =
        let x = made t formed in
        held_from (view b (New t)) (pick t new) (tree_of t out) (merged.words t) x.well_formed (merged.counts t)
        (omega (arith, limit_small b)) (omega (arith, x.shallow, (kept f).field.shallow, (kept f).bench.shallow))

  pub archive_refused : {v : Refusal} → Err v ≡ fit_answer l whose.Archive new.archive → draw_answer m (limit f) s ≡ Err v
  archive_refused x = drawn ∙ err_first _ (fails Archive x)

  module _ (x : Ok (tt {0}) ≡ fit_answer l whose.Archive new.archive) where
    pub field_refused : {v : Refusal} → Err v ≡ fit_answer l whose.Field new.field → draw_answer m (limit f) s ≡ Err v
    field_refused y = drawn ∙ ok_first _ (passes Archive x).0 ∙ err_first _ (fails Field y)

    module _ (y : Ok (tt {0}) ≡ fit_answer l whose.Field new.field) where
      pub bench_refused : {v : Refusal} → Err v ≡ fit_answer l whose.Bench new.bench → draw_answer m (limit f) s ≡ Err v
      bench_refused z = drawn ∙ ok_first _ (passes Archive x).0 ∙ ok_first _ (passes Field y).0 ∙ err_first _ (fails Bench z)

      module _ (z : Ok (tt {0}) ≡ fit_answer l whose.Bench new.bench) where
        kept_new : Kept b New new out
        kept_new =
            let i = (passes Archive x).1 in
            let j = (passes Field y).1 in
            let k = (passes Bench z).1 in
            record {
              archive = new_holds Archive i;
              field = new_holds Field j;
              bench = new_holds Bench k;
              archive_few = omega arith;
              field_few = omega arith;
              bench_few = omega arith;
              field_unmarked = formed.field_sound.unmarked;
              bench_unmarked = formed.bench_sound.unmarked;
            }

        -- The outcome stands beside the trees.
        pub outcome_came : Kept b New new (trees_in b New new)
        outcome_came = kept_itself kept_new

        pub outcome_is : Ok (trees_in b New new) ≡ draw_answer m (limit f) s
        outcome_is =
            ap Ok (kept_trees kept_new)
            ∙ sym (drawn ∙ ok_first _ (passes Archive x).0 ∙ ok_first _ (passes Field y).0 ∙ ok_first _ (passes Bench z).0)

-- The outcome is taken over, table by table.
pub taken_over : {a b c d : Area} {n : Sizes} {s : Outcome}
    → Only (Tree Archive ∷ []) a b
    → Only (Tree Field ∷ []) b c
    → Only (Tree Bench ∷ []) c d
    → ((t : TheTree) → Holds (view a (New Archive)) n.archive t → Holds (view b (Tree Archive)) n.archive t)
    → ((t : TheTree) → Holds (view b (New Field)) n.field t → Holds (view c (Tree Field)) n.field t)
    → ((t : TheTree) → Holds (view c (New Bench)) n.bench t → Holds (view d (Tree Bench)) n.bench t)
    → Kept a New n s
    → Kept d Tree n s
taken_over {s = s} x y z archive field bench h =
    record {
      archive = carried_holds (z.same (Tree Archive) refl ∙ y.same (Tree Archive) refl) (archive s.archive h.archive);
      field = carried_holds (z.same (Tree Field) refl) (field s.field (carried_holds (x.same (New Field) refl) h.field));
      bench = bench s.bench (carried_holds (y.same (New Bench) refl ∙ x.same (New Bench) refl) h.bench);
      archive_few = omega (arith, h.archive_few, x.same_limit, y.same_limit, z.same_limit);
      field_few = omega (arith, h.field_few, x.same_limit, y.same_limit, z.same_limit);
      bench_few = omega (arith, h.bench_few, x.same_limit, y.same_limit, z.same_limit);
      field_unmarked = h.field_unmarked;
      bench_unmarked = h.bench_unmarked;
    }
