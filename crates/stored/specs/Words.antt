-- A tree in words. A node is three words: its name, the number of nodes of its subtree, and its kind. Its children follow, each with all below it.
use Rattle.std.specs.Prelude.{◌≡◌, ℕ, ◌+◌, ◌*◌, ◌≤◌, T, List, ◌∷◌, drop}
use Rattle.model.specs.Trees.{Tree, missing, mark, node, Forest, empty, child, present, WellFormed, WellFormedAll, nodes, nodes_all, depth}

-- The kind of a node: a mark or not.
abbrev pub tree_word : ℕ
tree_word = 0

abbrev pub mark_word : ℕ
mark_word = 1

-- The words of a tree under a name, and then others. What is missing has no words.
abbrev mutual
  pub emit : Tree → ℕ → List ℕ → List ℕ
  emit missing n rest = rest
  emit mark n rest = n ∷ 1 ∷ mark_word ∷ rest
  emit (node f) n rest = n ∷ (1 + nodes_all f) ∷ tree_word ∷ emits f rest

  pub emits : Forest → List ℕ → List ℕ
  emits empty rest = rest
  emits (child n t f) rest = emit t n (emits f rest)

abbrev pub below : Tree → Forest
below missing = empty
below mark = empty
below (node f) = f

-- A tree that is present, under its name, and the words behind it.
pub record Stored : Type 0 where
  pub name : ℕ
  pub tree : Tree
  pub rest : List ℕ
  pub is_present : T (present tree)
  pub well_formed : WellFormed tree

-- In `ws` it stands from node number `at` on.
pub record Stands (ws : List ℕ) (at : ℕ) (s : Stored) : Type 0 where
  pub words : drop (3 * at) ws ≡ emit s.tree s.name s.rest

abbrev pub Standing : List ℕ → ℕ → Type 0
Standing ws at = (s : Stored) × Stands ws at s

-- In `ws` the trees of a forest stand from node number `at` on, one behind the other.
pub record Row (ws : List ℕ) (at : ℕ) (f : Forest) (rest : List ℕ) : Type 0 where
  pub well_formed : WellFormedAll f
  pub words : drop (3 * at) ws ≡ emits f rest

-- Words that begin with those of a whole tree, the root under the name 0, or that begin anyhow where the tree is missing.
pub record Begins (ws : List ℕ) (t : Tree) : Type 0 where
  pub rest : List ℕ
  pub well_formed : WellFormed t
  pub words : ws ≡ emit t 0 rest

-- Words that hold a tree of so many nodes, within the limits.
pub record Holds (ws : List ℕ) (n : ℕ) (t : Tree) : Type 0 where
  pub begins : Begins ws t
  pub count : n ≡ nodes t
  pub few : nodes t ≤ 4096
  pub shallow : depth t ≤ 32
