-- Conflict, safe outcomes and rivals. o is the archive before the round, a the field copy and b the bench copy.
use Rattle.std.specs.Prelude.{◌≡◌, ℕ, Bool, not, ◌&&◌, ◌||◌, T, ◌⊎◌, List, ◌++◌, Some, Option}
use Rattle.model.specs.Trees.{Tree, mark, Path, kid, at, Alike, Equal, names_of, same, present, is_tree, WellFormed, union, select}
use Rattle.model.specs.Meaning.{Meaning, class_at, allowed, Obeys}
use Rattle.model.specs.Round.{Outcome}

-- What a round may rely on at a place of class c.
pub record Ready (m : Meaning) (c : Option ℕ) (o a b : Tree) : Type 0 where
  pub archive_formed : WellFormed o
  pub field_formed : WellFormed a
  pub bench_formed : WellFormed b
  pub field_obeys : Obeys m c a
  pub bench_obeys : Obeys m c b

-- Whether the copy x will have the name k next, beside the other copy y: x changed what is there, or y brings it new, or both have it.
abbrev pub is_next : Tree → Tree → Tree → ℕ → Bool
is_next o x y k =
    (present (kid x k) && not (same (kid x k) (kid o k))) || (present (kid y k) && not (present (kid o k))) || (present (kid x k) && present (kid y k))

abbrev pub field_next : Tree → Tree → Tree → List ℕ
field_next o a b = select (is_next o a b) (union (names_of a) (names_of b))

abbrev pub bench_next : Tree → Tree → Tree → List ℕ
bench_next o a b = select (is_next o b a) (union (names_of a) (names_of b))

-- Three that stand at one place of class c are in conflict: a mark stands and the copies still differ; or the copies are of two shapes,
-- and neither is as the archive has it; or both are nodes, and the class forbids the names that one of them will have next.
pub data ConflictHere (m : Meaning) (c : Option ℕ) (o a b : Tree) : Type 0 where
  unsettled : o ≡ mark → ¬ Equal a b → ConflictHere m c o a b
  apart : ¬ Alike a b → ¬ Equal o a → ¬ Equal o b → ConflictHere m c o a b
  names_refused :
      T (is_tree a)
      → T (is_tree b)
      → (¬ T (allowed m c (field_next o a b))) ⊎ (¬ T (allowed m c (bench_next o a b)))
      → ConflictHere m c o a b

-- The path p is in conflict.
abbrev pub InConflict : Meaning → Option ℕ → Tree → Tree → Tree → Path → Type 0
InConflict m c o a b p = ConflictHere m (class_at m c p) (at o p) (at a p) (at b p)

-- The path p or one above it is in conflict.
abbrev pub AtOrBelowConflict : Meaning → Option ℕ → Tree → Tree → Tree → Path → Type 0
AtOrBelowConflict m c o a b p = (q s : Path) × (p ≡ q ++ s) × InConflict m c o a b q

-- A safe outcome undoes no edit, invents nothing, stops at each conflict and obeys. Its trees need not be well formed, nor within any limit:
-- so more outcomes count as safe, and the outcome of the round is measured against all of them. A rival is any safe outcome.
pub record Safe (m : Meaning) (o a b : Tree) (r : Outcome) : Type 0 where
  pub field_kept : (p : Path) → ¬ Alike (at o p) (at a p) → Alike (at r.field p) (at a p)
  pub bench_kept : (p : Path) → ¬ Alike (at o p) (at b p) → Alike (at r.bench p) (at b p)
  pub field_known : (p : Path) → Alike (at r.field p) (at a p) ⊎ Alike (at r.field p) (at b p)
  pub bench_known : (p : Path) → Alike (at r.bench p) (at a p) ⊎ Alike (at r.bench p) (at b p)
  pub archive_known :
      (p : Path) → (at r.archive p ≡ mark) ⊎ (Alike (at r.archive p) (at r.field p) × Alike (at r.archive p) (at r.bench p))
  pub stopped :
      (p : Path)
      → InConflict m (Some 0) o a b p
      → Equal (at r.field p) (at a p) × Equal (at r.bench p) (at b p) × (at r.archive p ≡ mark)
  pub field_obeys : Obeys m (Some 0) r.field
  pub bench_obeys : Obeys m (Some 0) r.bench

-- r does as much as s: where the copies of s agree, so do those of r, and where the archive of r is marked, so is that of s.
pub record DoesAsMuch (r s : Outcome) : Type 0 where
  pub agrees : (p : Path) → Alike (at s.field p) (at s.bench p) → Alike (at r.field p) (at r.bench p)
  pub marks : (p : Path) → at r.archive p ≡ mark → at s.archive p ≡ mark
