-- Trees written behind one another.
use Rattle.std.specs.Prelude.{◌≡◌, ℕ, ◌+◌, ◌*◌, ◌≤◌, T, List, [], ◌∷◌, ◌++◌, length, take, drop}
use Rattle.model.specs.Trees.{Tree, Forest, empty, child, present, nodes, nodes_all}
use Rattle.stored.specs.Words.{emit, emits}

-- A tree was written under a name behind the first `at` nodes.
pub record Grown (before after : List ℕ) (at to name : ℕ) (t : Tree) : Type 0 where
  pub ends : to ≡ at + nodes t
  pub words : take (3 * to) after ≡ take (3 * at) before ++ emit t name []
  pub room : 3 * to ≤ length after

-- The last node that is written stands at `at` and is open: its count is 0 so far, and its children `done` are written up to `to`.
pub record Opened (out : List ℕ) (at to name : ℕ) (done : Forest) : Type 0 where
  pub front : List ℕ
  pub words : take (3 * to) out ≡ front ++ name ∷ 0 ∷ 0 ∷ emits done []
  pub at_is : length front ≡ 3 * at
  pub room : 3 * to ≤ length out

-- Every child is present, so that it has words.
abbrev pub Listed : Forest → Type 0
Listed empty = Unit {0}
Listed (child n t f) = T (present t) × Listed f

-- The children of the node at `at` are written up to `end`.
pub record Listing (ws : List ℕ) (at end : ℕ) (f : Forest) : Type 0 where
  pub rest : List ℕ
  pub words : drop (3 * (at + 1)) ws ≡ emits f rest
  pub ends : end ≡ at + 1 + nodes_all f
  pub room : 3 * end ≤ length ws
  pub listed : Listed f
