-- The round from its root.
use Rattle.std.proofs.Common.{◌≡◌, ℕ, ◌+◌, ◌*◌, ◌≤◌, Bool, true, false, ltb, Ok, Err, List, [], ◌∷◌, ◌++◌, take, Some, sym, refl, ap, ◌∙◌, subst, arith}
use Rattle.std.proofs.lemmas.Bool.{lt-ltb}
use Rattle.std.proofs.lemmas.List.{drop_all}
use Rattle.model.specs.Trees.{Tree, missing, mark, node, nodes}
use Rattle.model.specs.Meaning.{Meaning}
use Rattle.model.specs.Round.{first_five, round}
use Rattle.model.specs.Safety.{Ready}
use Rattle.model.proofs.Place.{unmarked}
use Rattle.stored.specs.Words.{Holds, emit, below as children}
use Rattle.stored.specs.Lookup.{Spot, at_of}
use Rattle.stored.proofs.Places.{begun}
use Rattle.area.specs.Views.{view, limit, Only}
use Rattle.area.specs.declared.types.Area.{Area}
use Rattle.tables.specs.declared.Table.{Table}
use Rattle.tables.specs.declared.Table.TheVariants.{Archive, Field, Bench}
use Rattle.area.specs.declared.regions.Region.TheVariants.{New, Stack}
use Rattle.area.proofs.Laws.{view_length, limit_small, same_length}
use Rattle.merging.specs.Tables.{Sizes}
use Rattle.merging.specs.declared.types.Here.{Here}
use Rattle.merging.specs.declared.types.Walk.{Walk}
use Rattle.merging.specs.declared.types.Step.{Step}
use Rattle.merging.specs.declared.types.Step.TheVariants.{Down}
use Rattle.merging.specs.Held.{Held, Merged}
use Rattle.merging.specs.Tables.{spot, tree_of, trees, At, gone, there, sources}
use Rattle.tables.specs.Pick.{pick, each}
use Rattle.merging.specs.Steps.{made, verdict}
use Rattle.merging.specs.Levels.{Level, fresh}
use Rattle.merging.specs.Looking.{Finds}
use Rattle.merging.specs.Outputs.{Grown}
use Rattle.merging.specs.Frames.{frame_words}
use Rattle.merging.specs.Going.{RestsAll, Busy, own, frame_for, Opening, Opens}
use Rattle.merging.proofs.Machine.{Sinks, sinks, settles, opened_value}
use Rattle.merging.proofs.Writing.{by_table}
use Rattle.merging.proofs.Regions.{same_sources}
use Rattle.merging.proofs.Outs.{made_small}
use Rattle.merging.proofs.Turns.{fresh_rests}

-- The first node, if there is one.
abbrev pub at_root : Bool → Spot
at_root true = Ok 0
at_root false = Err 0

-- A whole tree stands at the first node.
pub whole_at : (ws : List ℕ) (n : ℕ) (t : Tree) → Holds ws n t → At ws 0 (at_root (ltb 0 n)) t
whole_at ws n missing h = subst (λ b. At ws 0 (at_root b) missing) (sym (ap (ltb 0) h.count)) (gone refl)
whole_at ws n mark h = subst (λ b. At ws 0 (at_root b) mark) (sym (lt-ltb 0 n (omega (arith, h.count)))) (there refl (begun h.begins tt))
whole_at ws n (node f) h = subst (λ b. At ws 0 (at_root b) (node f)) (sym (lt-ltb 0 n (omega (arith, h.count)))) (there refl (begun h.begins tt))

abbrev pub none : Sizes
none = record { archive = 0; field = 0; bench = 0 }

-- Where the three trees stand.
pub record Rooted (m : Meaning) (area : Area) (size : Sizes) (o a b : Tree) (h : Here) : Type 0 where
  pub held : Held area size o a b
  pub ready : Ready m (Some 0) o a b
  pub name : h.name ≡ 0
  pub origin : (t : Table) → at_of (spot t h) ≡ 0
  pub finds : Finds area h (trees o a b)

pub rooted : {m : Meaning} {area : Area} {size : Sizes} {o a b : Tree} (x y z : Spot) → at_of x ≡ 0 → at_of y ≡ 0 → at_of z ≡ 0
    → ((ws : List ℕ) (t : Tree) → Holds ws size.archive t → At ws 0 x t)
    → ((ws : List ℕ) (t : Tree) → Holds ws size.field t → At ws 0 y t)
    → ((ws : List ℕ) (t : Tree) → Holds ws size.bench t → At ws 0 z t)
    → Held area size o a b → Ready m (Some 0) o a b
    → Rooted m area size o a b (record { name = 0; places = record { archive = x; field = y; bench = z } })
rooted x y z ex ey ez hx hy hz held ready =
    record {
      held = held;
      ready = ready;
      name = refl;
      origin = by_table _ ex ey ez;
      finds = by_table _ (hx _ _ held.archive) (hy _ _ held.field) (hz _ _ held.bench);
    }

module _ {m : Meaning} {area : Area} {size : Sizes} {o a b : Tree} {h : Here} (root : Rooted m area size o a b h) where
  root_sinks : first_five o a b ≡ verdict Down a b → Sinks o a b
  root_sinks e = sinks o a b (unmarked m (Some 0) a root.ready.field_obeys) (unmarked m (Some 0) b root.ready.bench_obeys) e

  pub root_opening : first_five o a b ≡ verdict Down a b → (full : ℕ) → full ≡ limit area * 16
      → Opening area h (record { top = full; at = none; new = none }) (trees o a b)
  root_opening e full q =
      let s = root_sinks e in
      let l = limit_small area in
      let n = ap nodes s.is_one in
      record {
        finds = root.finds;
        deep = omega (arith, root.held.field_few);
        within = omega arith;
        room = by_table _ (omega (arith, root.held.field_few)) (omega (arith, root.held.field_few)) (omega (arith, root.held.field_few));
        low =
            by_table _ (omega (arith, root.origin Archive, root.held.archive_few)) (omega (arith, root.origin Field, root.held.field_few))
            (omega (arith, root.origin Bench, root.held.bench_few));
      }

  pub root_busy : (e : first_five o a b ≡ verdict Down a b) (full : ℕ) → full ≡ limit area * 16 → (area' : Area) (r : Walk)
      → Opens area area' (Some 0) h (trees o a b) (record { top = full; at = none; new = none }) r
      → Only (New Archive ∷ New Field ∷ New Bench ∷ Stack ∷ []) area area' → Busy m (round m o a b) area' r
  root_busy e full q area' r p u =
      let s = root_sinks e in
      let ts = trees o a b in
      let frame = frame_for (Some 0) h ts none in
      let new : Level = fresh h.name frame s.one s.two (λ t. children (ts t)) in
      let rest : RestsAll m (sources area) (new ∷ []) (each (λ t. at_of (spot t h) + own (ts t))) = (
        fresh_rests {m = m} {source = sources area} (Some 0) h ts none root.finds s root.ready.field_obeys root.ready.bench_obeys
            (by_table _ (omega arith) (omega arith) (omega arith)) (omega (arith, root.origin Archive, root.held.archive_few, limit_small area)),
        tt,
      ) in
      let af : r.at.field ≡ at_of h.places.field + 1 = ap (λ x. x.field) p.at ∙ ap (λ t. at_of h.places.field + own t) s.is_one in
      let ab : r.at.bench ≡ at_of h.places.bench + 1 = ap (λ x. x.bench) p.at ∙ ap (λ t. at_of h.places.bench + own t) s.is_two in
      let some = ap nodes s.is_one in
      let one : (t : Table) → pick t r.new ≡ 1 = by_table _ (p.new Archive) (p.new Field) (p.new Bench) in
      let written : (t : Table) → take (3 * pick t r.new) (view area' (New t)) ≡ h.name ∷ 0 ∷ 0 ∷ [] =
      by_table _ (p.words Archive) (p.words Field) (p.words Bench) in (
        new,
        [],
        record {
          pile =
              p.pile
              ∙ ap (λ l. frame_words frame ++ l) (drop_all full (view area Stack) (omega (arith, view_length area Stack)));
          rests =
              subst (λ x. RestsAll m x (new ∷ []) r.at) (sym (same_sources u (λ t. refl)))
              (subst (λ x. RestsAll m (sources area) (new ∷ []) x) (sym p.at) rest);
          outs = λ t.
              record {
                words = written t;
                places = (by_table (λ t. 0 ≡ 3 * pick t none) refl refl refl t, tt);
                room = omega (arith, one t, root.held.field_few, view_length area (New t), same_length u (New t));
              };
          used = λ t. omega (arith, one t);
          deep = omega (arith, p.top, u.same_limit);
          bottom = root.name;
          answers = sym (opened_value m h.name frame o a b s (λ t. children (ts t)) refl (ap children s.is_one) (ap children s.is_two) e);
        },
      )

  pub root_room : (s : Step) → first_five o a b ≡ verdict s a b → ¬ (s ≡ Down)
      → (t : Table) → pick t none + nodes (tree_of t (made s a b)) ≤ limit area * 2
  root_room s e d =
      let small = made_small o a b s e d in
      let f = root.held.field_few in
      let g = root.held.bench_few in
      by_table _ (omega (arith, small Archive)) (omega (arith, small Field)) (omega (arith, small Bench))

  pub root_merged : (s : Step) → first_five o a b ≡ verdict s a b → ¬ (s ≡ Down) → (area' : Area) (r : Sizes)
      → ((t : Table) → Grown (view area (New t)) (view area' (New t)) (pick t none) (pick t r) h.name (tree_of t (made s a b)))
      → Merged (round m o a b) area' r
  root_merged s e d area' r g =
      let q = settles m (Some 0) o a b s (unmarked m (Some 0) a root.ready.field_obeys) e d in
      let all : Merged (made s a b) area' r =
      record {
        counts = by_table _ (omega (arith, (g Archive).ends)) (omega (arith, (g Field).ends)) (omega (arith, (g Bench).ends));
        words = λ t.
            subst (λ k. take (3 * pick t r) (view area' (New t)) ≡ emit (tree_of t (made s a b)) k []) root.name (plain t);
      } in
      subst (λ x. Merged x area' r) (sym q) all
    where
      plain : (t : Table) → take (3 * pick t r) (view area' (New t)) ≡ emit (tree_of t (made s a b)) h.name []
      plain = by_table _ (g Archive).words (g Field).words (g Bench).words

  pub chosen_root : (s : Step) → first_five o a b ≡ verdict s a b → s ≡ Down → first_five o a b ≡ verdict Down a b
  chosen_root s e q = e ∙ ap (λ x. verdict x a b) q
