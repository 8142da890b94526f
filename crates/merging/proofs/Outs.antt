-- The new regions, level by level.
use Rattle.std.proofs.Common.{◌≡◌, ℕ, ◌+◌, ◌*◌, ◌≤◌, max, Bool, true, false, cond, ◌&&◌, List, [], ◌∷◌, ◌++◌, length, take, Option, sym, refl, ap, ◌∙◌, append_assoc, arith, length-take}
use Rattle.model.specs.Trees.{Tree, missing, mark, node, Forest, empty, child, names, nodes, nodes_all, add}
use Rattle.model.specs.Meaning.{Meaning, allowed}
use Rattle.model.specs.Round.{Outcome, outcome, settled, first_five}
use Rattle.stored.specs.Words.{emit, emits}
use Rattle.stored.proofs.Forests.{join, emits_join}
use Rattle.stored.proofs.Unique.{emits_rest}
use Rattle.tables.specs.declared.Table.{Table}
use Rattle.tables.specs.declared.Table.TheVariants.{Archive, Field, Bench}
use Rattle.merging.specs.declared.types.Step.{Step}
use Rattle.merging.specs.declared.types.Step.TheVariants.{Agreed, TakeBench, TakeField, Mark, Down}
use Rattle.merging.specs.Tables.{tree_of}
use Rattle.tables.specs.Pick.{pick}
use Rattle.merging.specs.Steps.{made, verdict}
use Rattle.merging.specs.Levels.{Level, sealed, more, gained}
use Rattle.merging.specs.Outputs.{Grown, Opened, Listed}
use Rattle.merging.specs.Going.{lines, Out}
use Rattle.merging.proofs.Writing.{opened_long, opened_front}

emits_add : (t : Tree) (k : ℕ) → emits (add k t empty) [] ≡ emit t k []
emits_add missing k = refl
emits_add mark k = refl
emits_add (node f) k = refl

emits_more : (d : Forest) (t : Tree) (k : ℕ) → emits (join d (add k t empty)) [] ≡ emits d [] ++ emit t k []
emits_more d t k = emits_join d (add k t empty) [] ∙ ap (emits d) (emits_add t k) ∙ emits_rest d (emit t k [])

-- One more child is written.
pub grow : {t : Table} {out out' : List ℕ} {to to' k : ℕ} {lv : Level} {ls : List Level} (left : Table → Forest) (r : Outcome)
    → Out t out to (lv ∷ ls) → Grown out out' to to' k (tree_of t r) → Out t out' to' (gained lv left (more lv.done k r) ∷ ls)
grow {t} {out} {out'} {to} {to'} {k} {lv} {ls} left r o g =
    record {
      words =
          g.words
          ∙ ap (λ w. w ++ emit (tree_of t r) k []) o.words
          ∙ append_assoc (lines t ls) (lv.name ∷ 0 ∷ 0 ∷ emits (lv.done t) []) (emit (tree_of t r) k [])
          ∙ ap (λ w. lines t ls ++ (lv.name ∷ 0 ∷ 0 ∷ w)) (sym (emits_more (lv.done t) (tree_of t r) k));
      places = o.places;
      room = g.room;
    }

-- A node is opened below the level.
pub open_one : {t : Table} {out out' : List ℕ} {to to' k : ℕ} {lv : Level} {ls : List Level} (left : Table → Forest) (new : Level)
    → Out t out to (lv ∷ ls) → new.name ≡ k → new.done t ≡ empty → pick t new.frame.new ≡ to
    → take (3 * to') out' ≡ take (3 * to) out ++ k ∷ 0 ∷ 0 ∷ [] → 3 * to' ≤ length out'
    → Out t out' to' (new ∷ gained lv left lv.done ∷ ls)
open_one {t} {out} {out'} {to} {to'} {k} {lv} {ls} left new o en ed ep w l =
    let long : length (lines t (lv ∷ ls)) ≡ 3 * to = ap length (sym o.words) ∙ omega (arith, length-take (3 * to) out, o.room) in
    record {
      words =
          w
          ∙ ap (λ z. z ++ k ∷ 0 ∷ 0 ∷ []) o.words
          ∙ ap (λ z. lines t (lv ∷ ls) ++ z ∷ 0 ∷ 0 ∷ []) (sym en)
          ∙ ap (λ z. lines t (lv ∷ ls) ++ new.name ∷ 0 ∷ 0 ∷ emits z []) (sym ed);
      places = (long ∙ ap (λ z. 3 * z) (sym ep), o.places);
      room = l;
    }

pub opened : {t : Table} {out : List ℕ} {to : ℕ} {lv : Level} {ls : List Level} → Out t out to (lv ∷ ls)
    → Opened out (pick t lv.frame.new) to lv.name (lv.done t)
opened {t} {ls = ls} o = record { front = lines t ls; words = o.words; at_is = o.places.0; room = o.room }

-- The last open node is closed.
pub close_one : {t : Table} {out out' : List ℕ} {to to' : ℕ} {lv up : Level} {ls : List Level} (r : Outcome)
    → Out t out to (lv ∷ up ∷ ls) → Grown out out' (pick t lv.frame.new) to' lv.name (tree_of t r)
    → Out t out' to' (gained up up.left (more up.done lv.name r) ∷ ls)
unfolding opened
close_one {t} {out} {lv = lv} {up = up} {ls = ls} r o g =
    let w = opened o in
    let n = opened_long w in
    let v : Out t out (pick t lv.frame.new) (up ∷ ls) =
    record { words = opened_front w; places = o.places.1; room = omega (arith, o.room) } in
    grow up.left r v g

pub close_last : {t : Table} {out out' : List ℕ} {to to' : ℕ} {lv : Level} {x : Tree}
    → Out t out to (lv ∷ []) → Grown out out' (pick t lv.frame.new) to' lv.name x → take (3 * to') out' ≡ emit x lv.name []
unfolding opened
close_last {lv = lv} {x = x} o g = g.words ∙ ap (λ w. w ++ emit x lv.name []) (opened_front (opened o))

pub first_place : {t : Table} {out : List ℕ} {to : ℕ} {lv : Level} → Out t out to (lv ∷ []) → pick t lv.frame.new ≡ 0
first_place o = omega (arith, o.places.0)

-- Children that are present.
listed_add : (k : ℕ) (t : Tree) → Listed (add k t empty)
listed_add k missing = tt
listed_add k mark = (tt, tt)
listed_add k (node f) = (tt, tt)

pub listed_join : (d e : Forest) → Listed d → Listed e → Listed (join d e)
listed_join empty e h g = g
listed_join (child n t d) e h g = (h.0, listed_join d e h.1 g)

pub listed_more : (done : Table → Forest) (k : ℕ) (r : Outcome) (t : Table) → Listed (done t) → Listed (more done k r t)
listed_more done k r t h = listed_join (done t) (add k (tree_of t r) empty) h (listed_add k (tree_of t r))

-- What a step makes of a place is no larger than both copies.
pub made_small : (o a b : Tree) (s : Step) → first_five o a b ≡ verdict s a b → ¬ (s ≡ Down) → (t : Table)
    → nodes (tree_of t (made s a b)) ≤ nodes a + nodes b
made_small o a b Agreed e d Archive = omega arith
made_small o a b Agreed e d Field = omega arith
made_small o a b Agreed e d Bench = omega arith
made_small o a b TakeBench e d Archive = omega arith
made_small o a b TakeBench e d Field = omega arith
made_small o a b TakeBench e d Bench = omega arith
made_small o a b TakeField e d Archive = omega arith
made_small o a b TakeField e d Field = omega arith
made_small o a b TakeField e d Bench = omega arith
made_small o a b Mark e d Archive = go a b e
  where
    go : (a b : Tree) → first_five o a b ≡ settled (outcome mark a b) → 1 ≤ nodes a + nodes b
    go missing missing q = let z : outcome missing missing missing ≡ outcome mark missing missing = cc in omega (arith, ap (λ r. nodes r.archive) z)
    go missing mark q = omega arith
    go missing (node g) q = omega arith
    go mark b q = omega arith
    go (node f) b q = omega arith
made_small o a b Mark e d Field = omega arith
made_small o a b Mark e d Bench = omega arith
made_small o a b Down e d t = absurd (d refl)

-- A level that is closed is no larger than what was written, or than both copies.
pub sealed_small : (m : Meaning) (c : Option ℕ) (f g : Forest) (done : Table → Forest) (t : Table)
    → nodes (tree_of t (sealed m c f g done)) ≤ max (1 + nodes_all (done t)) (nodes (node f) + nodes (node g))
sealed_small m c f g done t = go (allowed m c (names (done Field)) && allowed m c (names (done Bench))) t
  where
    go : (x : Bool) (t : Table)
        → nodes (tree_of t (cond x (outcome (node (done Archive)) (node (done Field)) (node (done Bench))) (outcome mark (node f) (node g))))
        ≤ max (1 + nodes_all (done t)) (nodes (node f) + nodes (node g))
    go true Archive = omega arith
    go true Field = omega arith
    go true Bench = omega arith
    go false Archive = omega arith
    go false Field = omega arith
    go false Bench = omega arith
