-- The trees that a node, siblings and a held tree are.
use Rattle.std.specs.Prelude.{ℕ, List, [], ◌∷◌, Some, None, Option, slice_index}
use Rattle.model.specs.Trees.{Tree, missing, mark, node, Forest, empty, child}
use Rattle.stored.specs.Decoding.{all_trees, whole_tree}
use Rattle.stored.specs.declared.types.Node.{Node}
use Rattle.stored.specs.declared.types.Siblings.{Siblings}
use Rattle.stored.specs.declared.types.Preorder.{Preorder}
use Rattle.stored.specs.declared.types.Held.{Held}

abbrev pub name_of : Node → ℕ
name_of n = slice_index n.words.now 0

abbrev pub tree_of : Node → Tree
tree_of n = whole_tree n.words.now

abbrev pub named : Node → ℕ × Tree
named n = (name_of n, tree_of n)

abbrev pub tree_held : Held → Tree
tree_held h = whole_tree h.words.now

-- The trees of a forest, each with its name.
abbrev pub entries : Forest → List (ℕ × Tree)
entries empty = []
entries (child n t f) = (n, t) ∷ entries f

abbrev pub siblings_left : Siblings → List (ℕ × Tree)
siblings_left s = entries (all_trees s.words.now)

-- Every node of a tree, in the order of the words, with all below it; and then others.
abbrev mutual
  pub every : ℕ → Tree → List (ℕ × Tree) → List (ℕ × Tree)
  every n missing rest = rest
  every n mark rest = (n, mark) ∷ rest
  every n (node f) rest = (n, node f) ∷ every_of f rest

  pub every_of : Forest → List (ℕ × Tree) → List (ℕ × Tree)
  every_of empty rest = rest
  every_of (child n t f) rest = every n t (every_of f rest)

abbrev pub nodes_left : Preorder → List (ℕ × Tree)
nodes_left s = every_of (all_trees s.words.now) []

-- The root of a tree, under the name 0, if it is present.
abbrev pub root_of : Tree → Option (ℕ × Tree)
root_of missing = None
root_of mark = Some (0, mark)
root_of (node f) = Some (0, node f)
