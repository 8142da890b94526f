-- The tree that words say.
use Rattle.std.specs.Prelude.{ℕ, zero, suc, ◌-◌, ◌*◌, ◌/◌, cond, List, length, drop, ◌==◌, slice_index, slice_index_or}
use Rattle.model.specs.Trees.{Tree, missing, mark, node, Forest, empty, child}
use Rattle.stored.specs.Words.{mark_word}

abbrev pub of_kind : ℕ → Forest → Tree
of_kind k f = cond (k == mark_word) mark (node f)

-- The trees that words begin with, of so many nodes in all, one behind the other. No more than the first number of them are read.
abbrev pub row : ℕ → ℕ → List ℕ → Forest
row zero n ws = empty
row (suc most) zero ws = empty
row (suc most) (suc n) ws =
    let size = slice_index_or ws 1 0 in
    child (slice_index ws 0) (of_kind (slice_index ws 2) (row most (size - 1) (drop 3 ws))) (row most (suc n - size) (drop (3 * size) ws))

abbrev pub first : Forest → Tree
first empty = missing
first (child n t f) = t

-- The tree of so many nodes that words begin with.
unfoldable pub tree_in : List ℕ → ℕ → Tree
tree_in ws n = first (row n n ws)

-- The trees that words are, one behind the other, and the tree that they are. Each node has three words.
unfoldable pub all_trees : List ℕ → Forest
all_trees ws = row (length ws / 3) (length ws / 3) ws

abbrev pub whole_tree : List ℕ → Tree
whole_tree ws = tree_in ws (length ws / 3)
