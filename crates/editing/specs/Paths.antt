-- How far a path leads in a tree that stands in words.
use Rattle.std.specs.Prelude.{◌≡◌, ℕ, T, List, take}
use Rattle.model.specs.Trees.{Tree, present, Path, at}
use Rattle.model.specs.Edits.{reached}
use Rattle.stored.specs.Words.{Stored, Stands}
use Rattle.editing.specs.declared.types.Reach.{Reach}

pub record Reaches (ws : List ℕ) (t : Tree) (p : Path) (r : Reach) : Type 0 where
  pub names : r.names ≡ reached t p
  pub here : T (present t) → (s : Stored) × Stands ws r.at s × (s.tree ≡ at t (take (reached t p) p))
