-- The round: six steps at a place, of which the first that fits is taken.
use Rattle.std.specs.Prelude.{ℕ, cond, not, ◌&&◌, ◌||◌, List, Some, Option, ◌==◌}
use Rattle.model.specs.Trees.{Tree, missing, mark, node, Forest, empty, child, kid, names, names_of, same, present, is_mark, union, gather}
use Rattle.model.specs.Meaning.{Meaning, class_under, allowed}

-- Three trees: an archive and two copies.
pub record Outcome : Type 0 where
  pub archive : Tree
  pub field : Tree
  pub bench : Tree

abbrev pub outcome : Tree → Tree → Tree → Outcome
outcome o a b = record { archive = o; field = a; bench = b }

-- The first five steps settle a place, or leave it to the sixth.
pub data Verdict : Type 0 where
  settled : Outcome → Verdict
  below : Verdict

-- o is the archive, a the field copy and b the bench copy.
-- 1. The copies are equal: the archive is set to them.
-- 2. Only the bench was edited: all three become b.
-- 3. Only the field was edited: all three become a.
-- 4. The place is marked: it stays so, and so do the copies.
-- 5. One copy is missing: the place is marked, and the copies stay.
abbrev pub first_five : Tree → Tree → Tree → Verdict
first_five o a b =
    cond (same a b) (settled (outcome a a b))
    (cond (same a o) (settled (outcome b b b))
    (cond (same b o) (settled (outcome a a a))
    (cond (is_mark o) (settled (outcome mark a b))
    (cond (not (present a) || not (present b)) (settled (outcome mark a b)) below))))

-- 6. The round under each name of a or b gives the children of all three. If the class does not allow the names that either copy then has,
-- the place is marked instead, and both copies are left as they came.
abbrev pub put_together : Meaning → Option ℕ → Tree → Tree → (ℕ → Outcome) → Outcome
put_together m c a b came =
    let all : List ℕ = union (names_of a) (names_of b) in
    let o' : Forest = gather (λ k. (came k).archive) all in
    let a' : Forest = gather (λ k. (came k).field) all in
    let b' : Forest = gather (λ k. (came k).bench) all in
    cond (allowed m c (names a') && allowed m c (names b')) (outcome (node o') (node a') (node b')) (outcome mark a b)

-- The round at a place of class c, by recursion on the field copy: `steps_under` looks the name k up among the field copy's children f.
-- `StepsAsTold` says the same without the look-up.
abbrev mutual
  pub steps : Meaning → Option ℕ → Tree → Tree → Tree → Outcome
  steps m c o missing b = elim (first_five o missing b) [ settled r ↦ r | below ↦ outcome mark missing b ]
  steps m c o mark b = elim (first_five o mark b) [ settled r ↦ r | below ↦ outcome mark mark b ]
  steps m c o (node f) b =
      elim (first_five o (node f) b) [
        | settled r ↦ r
        | below ↦ put_together m c (node f) b (λ k. steps_under m (class_under m c k) (kid o k) f k (kid b k))
      ]

  pub steps_under : Meaning → Option ℕ → Tree → Forest → ℕ → Tree → Outcome
  steps_under m c o empty k b = elim (first_five o missing b) [ settled r ↦ r | below ↦ outcome mark missing b ]
  steps_under m c o (child n t rest) k b = cond (k == n) (steps m c o t b) (steps_under m c o rest k b)

abbrev pub round : Meaning → Tree → Tree → Tree → Outcome
round m o a b = steps m (Some 0) o a b
