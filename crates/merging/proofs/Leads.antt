-- The names that are next in both copies.
use Rattle.std.proofs.Common.{◌≡◌, ℕ, ◌+◌, ◌<◌, ◌≤◌, min, Bool, true, false, ◌||◌, List, sym, refl, ap, ◌∙◌, subst, inl, inr, arith}
use Rattle.std.proofs.lemmas.Bool.{eq-eqb, cases_eq}
use Rattle.model.specs.Trees.{Tree, Forest, empty, child, nodes_all}
use Rattle.stored.specs.Words.{Stored, Stands, Row}
use Rattle.stored.specs.Lookup.{Between, starts}
use Rattle.stored.proofs.Places.{nodes_some, first}
use Rattle.merging.specs.Looking.{Floor, Least}

pub between_as : {xs ys : List ℕ} {from end : ℕ} {f : Forest} → xs ≡ ys → Between ys from end f → Between xs from end f
between_as {from = from} {end = end} {f = f} e b = subst (λ l. Between l from end f) (sym e) b

pub bare : {ws : List ℕ} {from end : ℕ} {f : Forest} → Between ws from end f → from ≡ end → f ≡ empty
bare {ws} {from} {end} {f} b e = go f b.row b.ends
  where
    go : (f : Forest) → Row ws from f b.rest → end ≡ from + nodes_all f → f ≡ empty
    go empty r q = refl
    go (child n t f) r q = absurd (omega (arith, nodes_some t r.well_formed.0))

-- The first tree of a forest that has nodes.
pub record Lead (ws : List ℕ) (pos : ℕ) (f : Forest) : Type 0 where
  pub stored : Stored
  pub then : Forest
  pub is : f ≡ child stored.name stored.tree then
  pub here : Stands ws pos stored

pub lead : {ws : List ℕ} {from end : ℕ} {f : Forest} → Between ws from end f → 0 < nodes_all f → Lead ws from f
lead {ws} {from} {end} {f} b l = go f b.row l
  where
    go : (f : Forest) → Row ws from f b.rest → 0 < nodes_all f → Lead ws from f
    go empty r l = absurd (omega arith)
    go (child n t f) r l = record { stored = _; then = f; is = refl; here = first r }

floor_as : (k n : ℕ) (t : Tree) (f g : Forest) → g ≡ child n t f → k ≤ n → Floor k g
floor_as k n t f g e l = subst (Floor k) (sym e) l

starts_as : (k n : ℕ) (t : Tree) (f g : Forest) → g ≡ child n t f → n ≡ k → starts k g ≡ true
starts_as k n t f g e q = ap (starts k) e ∙ eq-eqb n k q

or_true : (x y : Bool) → y ≡ true → (x || y) ≡ true
or_true true y e = refl
or_true false y e = e

pub least_second : {ws : List ℕ} {pos : ℕ} {f g : Forest} (k : ℕ) → f ≡ empty → (w : Lead ws pos g) → k ≡ w.stored.name → Least k f g
least_second {f = f} {g = g} k e w q =
    record {
      first_floor = subst (Floor k) (sym e) tt;
      second_floor = floor_as k _ _ _ g w.is (omega arith);
      there = or_true (starts k f) (starts k g) (starts_as k _ _ _ g w.is (sym q));
    }

pub least_first : {ws : List ℕ} {pos : ℕ} {f g : Forest} (k : ℕ) → g ≡ empty → (w : Lead ws pos f) → k ≡ w.stored.name → Least k f g
least_first {f = f} {g = g} k e w q =
    record {
      first_floor = floor_as k _ _ _ f w.is (omega arith);
      second_floor = subst (Floor k) (sym e) tt;
      there = ap (λ x. x || starts k g) (starts_as k _ _ _ f w.is (sym q));
    }

pub least_both : {vs ws : List ℕ} {i j : ℕ} {f g : Forest} (k n m : ℕ) (v : Lead vs i f) (w : Lead ws j g)
    → k ≡ min n m → n ≡ v.stored.name → m ≡ w.stored.name → Least k f g
least_both {f = f} {g = g} k n m v w q x y =
    record {
      first_floor = floor_as k _ _ _ f v.is (omega arith);
      second_floor = floor_as k _ _ _ g w.is (omega arith);
      there =
          elim (cases_eq v.stored.name k) [
            | inl e ↦ ap (λ x. x || starts k g) (starts_as k _ _ _ f v.is e)
            | inr e ↦ or_true (starts k f) (starts k g) (starts_as k _ _ _ g w.is (omega arith))
          ];
    }
