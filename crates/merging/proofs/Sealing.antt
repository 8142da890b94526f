-- A level that is closed.
use Rattle.std.proofs.Common.{◌≡◌, ℕ, ◌*◌, ◌≤◌, Bool, true, false, cond, ◌&&◌, List, length, Option, sym, refl, ap, ◌∙◌, arith}
use Rattle.model.specs.Trees.{mark, node, Forest, names}
use Rattle.model.specs.Meaning.{Meaning, allowed}
use Rattle.model.specs.Round.{outcome}
use Rattle.tables.specs.declared.Table.{Table}
use Rattle.tables.specs.declared.Table.TheVariants.{Archive, Field, Bench}
use Rattle.merging.specs.Tables.{tree_of}
use Rattle.merging.specs.Levels.{sealed}
use Rattle.merging.specs.Outputs.{Opened}
use Rattle.merging.proofs.Writing.{opened_long}

module _ (m : Meaning) (c : Option ℕ) (f g : Forest) (done : Table → Forest) where
  node_of : (t : Table) → node (done t) ≡ tree_of t (outcome (node (done Archive)) (node (done Field)) (node (done Bench)))
  node_of Archive = refl
  node_of Field = refl
  node_of Bench = refl

  pub stands : {r : Bool} → r ≡ (allowed m c (names (done Field)) && allowed m c (names (done Bench))) → r ≡ true
      → (t : Table) → node (done t) ≡ tree_of t (sealed m c f g done)
  stands x y t =
      node_of t
      ∙ ap (λ b. tree_of t (cond b (outcome (node (done Archive)) (node (done Field)) (node (done Bench))) (outcome mark (node f) (node g)))) (sym y ∙ x)

  pub refused : {r : Bool} → r ≡ (allowed m c (names (done Field)) && allowed m c (names (done Bench))) → r ≡ false
      → outcome mark (node f) (node g) ≡ sealed m c f g done
  refused x y =
      ap (λ b. cond b (outcome (node (done Archive)) (node (done Field)) (node (done Bench))) (outcome mark (node f) (node g))) (sym y ∙ x)

pub opened_room : {out : List ℕ} {at to k : ℕ} {f : Forest} → Opened out at to k f → 3 * at ≤ length out
opened_room w = omega (arith, opened_long w, w.room)

-- Two tests, one after the other.
pub first_fails : {x r : Bool} (y : Bool) → r ≡ false → r ≡ x → false ≡ (x && y)
first_fails y e p = ap (λ b. b && y) (sym e ∙ p)

pub second_tells : {x y r s : Bool} → r ≡ true → r ≡ x → s ≡ y → s ≡ (x && y)
second_tells {y = y} e p q = q ∙ ap (λ b. b && y) (sym e ∙ p)
