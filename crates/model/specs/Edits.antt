-- Edits of a tree at a path.
use Rattle.std.specs.Prelude.{◌≡◌, ℕ, ◌+◌, ◌≤◌, max, cond, not, T, [], ◌∷◌, ◌++◌, length, Option, ◌==◌, nat_lt}
use Rattle.model.specs.Trees.{Tree, missing, mark, node, Forest, empty, child, kid, names_of, present, insert, select, Path, at, add, WellFormed, nodes, marks, depth}
use Rattle.model.specs.Meaning.{Meaning, class_at, allowed, Obeys}

-- How many leading names of a path lead to something that is present.
abbrev pub reached : Tree → Path → ℕ
reached t [] = 0
reached t (k ∷ p) = cond (present (kid t k)) (1 + reached (kid t k) p) 0

-- What comes to stand at a path below a place where nothing stood: the tree that is set there, if the path has no further name.
abbrev pub fresh : Path → Tree → Tree
fresh [] u = u
fresh (k ∷ p) u = missing

-- The tree with u at the path p, new or replaced, or with nothing there where u is missing; all else stays. Without a parent nothing changes.
abbrev mutual
  pub set_at : Tree → Path → Tree → Tree
  set_at missing [] u = u
  set_at missing (k ∷ p) u = missing
  set_at mark [] u = u
  set_at mark (k ∷ p) u = mark
  set_at (node f) [] u = u
  set_at (node f) (k ∷ p) u = node (set_among f k p u)

  pub set_among : Forest → ℕ → Path → Tree → Forest
  set_among empty k p u = add k (fresh p u) empty
  set_among (child n t f) k p u =
      cond (nat_lt n k) (child n t (set_among f k p u)) (cond (n == k) (add k (set_at t p u) f) (add k (fresh p u) (child n t f)))

-- The tree is present, and all names of the path but the last lead to something that is present.
abbrev pub HasParent : Tree → Path → Type 0
HasParent t p = T (present t) × (length p ≤ 1 + reached t p)

-- Neither path begins with the other.
abbrev pub Apart : Path → Path → Type 0
Apart [] q = ⊥
Apart (k ∷ p) [] = ⊥
Apart (k ∷ p) (j ∷ q) = k ≡ j → Apart p q

abbrev pub EditsKeepTheForm : Type 0
EditsKeepTheForm = (t : Tree) (p : Path) (u : Tree) → WellFormed t → WellFormed u → WellFormed (set_at t p u)

abbrev pub EditsAreFound : Type 0
EditsAreFound = (t : Tree) (p : Path) (u : Tree) → WellFormed t → marks t ≡ 0 → HasParent t p → at (set_at t p u) p ≡ u

-- Where a path leads neither to the edit nor through it, nothing changes.
abbrev pub EditsLeaveTheRest : Type 0
EditsLeaveTheRest = (t : Tree) (p q : Path) (u : Tree) → WellFormed t → Apart p q → at (set_at t p u) q ≡ at t q

-- The nodes of what stood at the path go, and those of u come.
abbrev pub EditsAreCounted : Type 0
EditsAreCounted =
    (t : Tree) (p : Path) (u : Tree) → WellFormed t → marks t ≡ 0 → HasParent t p → nodes (set_at t p u) + nodes (at t p) ≡ nodes t + nodes u

-- No marks come but those of u, and no path is longer than one of the tree or one that leads through p.
abbrev pub EditsBringNoMarks : Type 0
EditsBringNoMarks = (t : Tree) (p : Path) (u : Tree) → marks (set_at t p u) ≤ marks t + marks u

abbrev pub EditsStayShallow : Type 0
EditsStayShallow = (t : Tree) (p : Path) (u : Tree) → depth (set_at t p u) ≤ max (depth t) (length p + depth u)

-- A tree still obeys once u is put under the name k of the place q: something stands there, the class of q allows its names with k among them,
-- and u obeys the class of its own place.
abbrev pub PutsObey : Type 0
PutsObey =
    (m : Meaning) (c : Option ℕ) (t : Tree) (q : Path) (k : ℕ) (u : Tree)
    → WellFormed t
    → WellFormed u
    → Obeys m c t
    → T (present (at t q))
    → T (allowed m (class_at m c q) (insert k (names_of (at t q))))
    → T (present u)
    → Obeys m (class_at m c (q ++ k ∷ [])) u
    → Obeys m c (set_at t (q ++ k ∷ []) u)

-- And once what stands under the name k is taken away: the class of q allows the names that are left.
abbrev pub StrikesObey : Type 0
StrikesObey =
    (m : Meaning) (c : Option ℕ) (t : Tree) (q : Path) (k : ℕ)
    → WellFormed t
    → Obeys m c t
    → T (present (at t q))
    → T (allowed m (class_at m c q) (select (λ n. not (n == k)) (names_of (at t q))))
    → Obeys m c (set_at t (q ++ k ∷ []) missing)
