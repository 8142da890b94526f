-- What can be true of a tree in one way at most.
use Rattle.std.proofs.Common.{ℕ, Bool, List, [], ◌∷◌}
use native.Mathlib.Bridge.{le_prop}
use mathlib.Core.HLevel.{Unit-prop, ×_prop, ×₃_prop}
use lib.Dec.{T_prop}
use Rattle.model.specs.Trees.{Tree, missing, mark, node, Forest, empty, child, names, Below, Ascends, present, WellFormed, WellFormedAll, Named, NamedAll}

below_once : (n : ℕ) (ks : List ℕ) → IsProp (Below n ks)
below_once n [] = Unit-prop
below_once n (k ∷ ks) = ×_prop le_prop (below_once n ks)

ascends_once : (ks : List ℕ) → IsProp (Ascends ks)
ascends_once [] = Unit-prop
ascends_once (k ∷ ks) = ×_prop (below_once k ks) (ascends_once ks)

-- A tree is well-formed in one way at most.
mutual
  pub well_formed_once : (t : Tree) → IsProp (WellFormed t)
  well_formed_once missing = Unit-prop
  well_formed_once mark = Unit-prop
  well_formed_once (node f) = ×_prop (ascends_once (names f)) (well_formed_all_once f)

  pub well_formed_all_once : (f : Forest) → IsProp (WellFormedAll f)
  well_formed_all_once empty = Unit-prop
  well_formed_all_once (child n t f) = ×₃_prop (T_prop (present t)) (well_formed_once t) (well_formed_all_once f)

-- So it is with its names.
mutual
  pub named_once : (test : ℕ → Bool) (t : Tree) → IsProp (Named test t)
  named_once test missing = Unit-prop
  named_once test mark = Unit-prop
  named_once test (node f) = named_all_once test f

  pub named_all_once : (test : ℕ → Bool) (f : Forest) → IsProp (NamedAll test f)
  named_all_once test empty = Unit-prop
  named_all_once test (child n t f) = ×₃_prop (T_prop (test n)) (named_once test t) (named_all_once test f)
