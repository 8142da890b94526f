-- What the calls of a turn require, and what is left to do after it.
use Rattle.std.proofs.Common.{◌≡◌, ℕ, ◌+◌, ◌*◌, ◌<◌, ◌≤◌, true, ◌||◌, List, ◌++◌, drop, sym, refl, ap, ◌∙◌, subst, inl, inr, arith}
use Rattle.std.proofs.lemmas.Bool.{cases_Bool, eqb-true}
use Rattle.model.specs.Trees.{Forest, empty, child, find, WellFormedAll, nodes}
use Rattle.model.specs.Meaning.{Meaning}
use Rattle.model.specs.Round.{Outcome}
use Rattle.model.proofs.Trees.{find_head}
use Rattle.stored.specs.Lookup.{starts, at_of}
use Rattle.stored.proofs.Places.{nodes_some}
use Rattle.area.specs.Views.{view, limit}
use Rattle.area.specs.declared.types.Area.{Area}
use Rattle.tables.specs.declared.Table.{Table}
use Rattle.tables.specs.declared.Table.TheVariants.{Archive, Field, Bench}
use Rattle.area.specs.declared.regions.Region.TheVariants.{Stack}
use Rattle.area.proofs.Laws.{limit_small}
use Rattle.merging.specs.Tables.{Sizes}
use Rattle.merging.specs.declared.types.Here.{Here}
use Rattle.merging.specs.declared.types.Frame.{Frame}
use Rattle.merging.specs.declared.types.Walk.{Walk}
use Rattle.merging.specs.declared.types.Step.{Step}
use Rattle.merging.specs.declared.types.Step.TheVariants.{Down}
use Rattle.merging.specs.Tables.{spot, tree_of}
use Rattle.tables.specs.Pick.{pick, each}
use Rattle.merging.specs.Steps.{made, verdict}
use Rattle.merging.specs.Levels.{Level, framed}
use Rattle.merging.specs.Looking.{Least, Looked}
use Rattle.merging.specs.Frames.{frame_words}
use Rattle.merging.specs.Going.{piled, Going, Busy, Topped, State, busy, over, own, Opening, work}
use Rattle.merging.specs.Held.{Merged}
use Rattle.merging.proofs.Finding.{not_both}
use Rattle.merging.proofs.Machine.{Sinks, sinks}
use Rattle.merging.proofs.Writing.{by_table}
use Rattle.merging.proofs.Outs.{made_small}
use Rattle.merging.proofs.Turns.{Chosen, found, standing, field_unmarked, bench_unmarked}

-- A frame that was read from the stack is that of the top level.
pub topped : {m : Meaning} {target : Outcome} {area : Area} {w : Walk} {f : Frame} → Busy m target area w
    → ((x : Frame) (rest : List ℕ) → drop w.top (view area Stack) ≡ frame_words x ++ rest → f ≡ x) → Topped m target area w f
topped {m} {target} {area} {w} b read =
    let lv = b.0 in
    let ls = b.1 in
    (lv, ls, subst (λ x. Going m target area w (framed lv x) ls) (sym (read lv.frame (piled ls) b.2.pile)) b.2)

pub chosen_down : {m : Meaning} {target : Outcome} {area : Area} {w : Walk} {lv : Level} {ls : List Level} → Going m target area w lv ls
    → (k : ℕ) (s : Step) → Chosen lv k s → s ≡ Down → Chosen lv k Down
chosen_down {lv = lv} g k s e q = e ∙ ap (λ x. verdict x (found lv k Field) (found lv k Bench)) q

-- What the calls of a turn require.
some_first : (k : ℕ) (f : Forest) → WellFormedAll f → starts k f ≡ true → 1 ≤ nodes (find f k)
some_first k empty h e = not_both e refl
some_first k (child n t f) h e =
    let q = eqb-true n k e in
    omega (arith, nodes_some t h.0, ap nodes (ap (find (child n t f)) (sym q) ∙ find_head n t f))

pub some_found : (k : ℕ) (f g : Forest) → Least k f g → WellFormedAll f → WellFormedAll g → 1 ≤ nodes (find f k) + nodes (find g k)
some_found k f g l a b =
    elim (cases_Bool (starts k f)) [
      | inl e ↦ omega (arith, some_first k f a e)
      | inr e ↦ omega (arith, some_first k g b (ap (λ x. x || starts k g) (sym e) ∙ l.there))
    ]

module _ {m : Meaning} {target : Outcome} {area : Area} {w : Walk} {lv : Level} {ls : List Level} (g : Going m target area w lv ls)
    (h : Here) (k : Looked area w.at lv.frame.ends lv.left h) where
  -- How far the walk is behind the name.
  pub record Passing : Type 0 where
    pub field_since : w.at.field ≤ at_of h.places.field
    pub bench_since : w.at.bench ≤ at_of h.places.bench
    pub field_within : at_of h.places.field + nodes (found lv h.name Field) ≤ limit area
    pub bench_within : at_of h.places.bench + nodes (found lv h.name Bench) ≤ limit area
    pub archive_within : at_of h.places.archive + nodes (found lv h.name Archive) ≤ 4096
    pub some : 1 ≤ nodes (found lv h.name Field) + nodes (found lv h.name Bench)

  pub passing : Passing
  passing =
      let s = standing g in
      let r = g.rests.0 in
      record {
        field_since = (k.seen Field).since;
        bench_since = (k.seen Bench).since;
        field_within = omega (arith, (k.seen Field).then.ends, s.field_low);
        bench_within = omega (arith, (k.seen Bench).then.ends, s.bench_low);
        archive_within = omega (arith, (k.seen Archive).then.ends, r.low);
        some = some_found h.name (lv.left Field) (lv.left Bench) k.least (r.lies Field).row.well_formed (r.lies Bench).row.well_formed;
      }

  pub settling : (s : Step) → Chosen lv h.name s → ¬ (s ≡ Down)
      → (t : Table) → pick t w.new + nodes (tree_of t (made s (found lv h.name Field) (found lv h.name Bench))) ≤ limit area * 2
  settling s e d t =
      let p = passing in
      let small = made_small (found lv h.name Archive) (found lv h.name Field) (found lv h.name Bench) s e d t in
      omega (arith, small, g.used t, p.field_since, p.bench_since, p.field_within, p.bench_within)

  sink : Chosen lv h.name Down → Sinks (found lv h.name Archive) (found lv h.name Field) (found lv h.name Bench)
  sink e = sinks _ _ _ (field_unmarked g.rests.0 h.name) (bench_unmarked g.rests.0 h.name) e

  pub opening : Chosen lv h.name Down → Opening area h w (found lv h.name)
  opening e =
      let p = passing in
      let s = sink e in
      let f = ap nodes s.is_one in
      let b = ap nodes s.is_two in
      let l = limit_small area in
      record {
        finds = λ t. (k.seen t).here;
        deep = omega (arith, g.deep, p.field_since, p.field_within);
        within = omega (arith, (standing g).top_in);
        room = λ t. omega (arith, g.used t, p.field_since, p.bench_since, p.field_within, p.bench_within);
        low = by_table _ p.archive_within (omega (arith, p.field_within)) (omega (arith, p.bench_within));
      }

  -- Every turn leaves less to do.
  pub settled_less : (area' : Area) (at r : Sizes) → limit area' ≡ limit area
      → at ≡ each (λ t. at_of (spot t h) + nodes (found lv h.name t)) → work area' (record { top = w.top; at = at; new = r }) < work area w
  settled_less area' at r l e =
      let p = passing in
      let s = standing g in
      omega (
        arith,
        ap (λ x. x.field) e,
        ap (λ x. x.bench) e,
        p.field_since,
        p.bench_since,
        p.field_within,
        p.bench_within,
        p.some,
        s.top_in,
      )

  pub down_less : Chosen lv h.name Down → (area' : Area) (r : Walk) → limit area' ≡ limit area
      → r.top + 10 ≡ w.top → r.at ≡ each (λ t. at_of (spot t h) + own (found lv h.name t)) → work area' r < work area w
  down_less e area' r l t q =
      let p = passing in
      let s = standing g in
      let n = sink e in
      omega (
        arith,
        ap (λ x. x.field) q ∙ ap (λ x. at_of h.places.field + own x) n.is_one,
        ap (λ x. x.bench) q ∙ ap (λ x. at_of h.places.bench + own x) n.is_two,
        ap nodes n.is_one,
        ap nodes n.is_two,
        p.field_since,
        p.bench_since,
        p.field_within,
        p.bench_within,
        s.top_in,
      )

pub shut_less : {m : Meaning} {target : Outcome} {area : Area} {w : Walk} {lv : Level} {ls : List Level} → Going m target area w lv ls
    → (area' : Area) (r : Sizes) → limit area' ≡ limit area → w.at.field ≡ lv.frame.ends.field → w.at.bench ≡ lv.frame.ends.bench
    → work area' (record { top = w.top + 10; at = lv.frame.ends; new = r }) < work area w
shut_less g area' r l ef eb =
    let s = standing g in
    omega (arith, s.top_in, s.field_low, s.bench_low)

-- The state at a test of the loop.
pub still_busy : {m : Meaning} {target : Outcome} {area : Area} {w : Walk} → State m target area w → w.top < limit area * 16 → Busy m target area w
still_busy (busy b) l = b
still_busy (over o) l = absurd (omega (arith, o.done))

pub all_done : {m : Meaning} {target : Outcome} {area : Area} {w : Walk} → State m target area w → limit area * 16 ≤ w.top
    → Merged target area w.new
all_done (busy b) l = absurd (omega (arith, (standing b.2).top_in))
all_done (over o) l = o.merged
