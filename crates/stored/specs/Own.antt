-- Words that are a tree's own and no others.
use Rattle.std.specs.Prelude.{◌≡◌, ℕ, ◌<◌, ◌≤◌, T, List, [], slice_index}
use Rattle.model.specs.Trees.{is_name, present, WellFormed, WellFormedAll, nodes, nodes_all, depth, Named}
use Rattle.stored.specs.Words.{emit, emits}
use Rattle.stored.specs.Decoding.{all_trees, whole_tree}

-- The words of one tree that is present, under its name. Words have 32 bits.
pub record Owned (ws : List ℕ) : Type 0 where
  pub is_present : T (present (whole_tree ws))
  pub well_formed : WellFormed (whole_tree ws)
  pub words : ws ≡ emit (whole_tree ws) (slice_index ws 0) []
  pub few : nodes (whole_tree ws) < 4294967296

-- The words of trees that are present, one behind the other.
pub record OwnedAll (ws : List ℕ) : Type 0 where
  pub well_formed : WellFormedAll (all_trees ws)
  pub words : ws ≡ emits (all_trees ws) []
  pub few : nodes_all (all_trees ws) < 4294967296

-- The words of a whole tree within the limits, the root under the name 0. A missing tree has none.
pub record OwnedWhole (ws : List ℕ) : Type 0 where
  pub well_formed : WellFormed (whole_tree ws)
  pub words : ws ≡ emit (whole_tree ws) 0 []
  pub few : nodes (whole_tree ws) ≤ 4096
  pub shallow : depth (whole_tree ws) ≤ 32
  pub names : Named is_name (whole_tree ws)
