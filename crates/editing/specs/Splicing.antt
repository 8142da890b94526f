-- What a splice is given.
use Rattle.std.specs.Prelude.{◌≡◌, ℕ, ◌*◌, ◌≤◌, List, length}
use Rattle.model.specs.Trees.{Tree, Path, WellFormed, nodes, marks}
use Rattle.model.specs.Edits.{set_at, HasParent}
use Rattle.stored.specs.Words.{emit, Holds}
use Rattle.area.specs.Views.{view, limit}
use Rattle.area.specs.declared.types.Area.{Area}
use Rattle.tables.specs.declared.Table.{Table}
use Rattle.area.specs.declared.regions.Region.{Region}
use Rattle.area.specs.declared.regions.Region.TheVariants.{Tree as Held}

-- Words that begin with a tree of so many nodes, under any name, or anyhow where it is missing.
pub record Offers (ws : List ℕ) (n : ℕ) (u : Tree) : Type 0 where
  pub name : ℕ
  pub rest : List ℕ
  pub well_formed : WellFormed u
  pub words : ws ≡ emit u name rest
  pub count : n ≡ nodes u

-- A tree t without marks, a path of some names to a place in it whose parent is there, and a tree u for that place, such that all fits.
pub record Splices (ws : List ℕ) (count : ℕ) (path : Path) (source : List ℕ) (grown most : ℕ) (t u : Tree) : Type 0 where
  pub holds : Holds ws count t
  pub unmarked : marks t ≡ 0
  pub some_name : 1 ≤ length path
  pub parent : HasParent t path
  pub offer : Offers source grown u
  pub fits : nodes (set_at t path u) ≤ most

-- In an area: the tree that a table holds, and what stands at the front of a region. The next tree of a table may be twice as large as the limit.
abbrev pub Given : Area → Table → ℕ → Path → Region → ℕ → Tree → Tree → Type 0
Given a table count path source grown t u = Splices (view a (Held table)) count path (view a source) grown (2 * limit a) t u

-- The same at a path of any length; the empty path has no parent.
pub record Replaces (ws : List ℕ) (count : ℕ) (path : Path) (source : List ℕ) (grown most : ℕ) (t u : Tree) : Type 0 where
  pub holds : Holds ws count t
  pub unmarked : marks t ≡ 0
  pub parent : 1 ≤ length path → HasParent t path
  pub offer : Offers source grown u
  pub fits : nodes (set_at t path u) ≤ most

abbrev pub Edited : Area → Table → ℕ → Path → Region → ℕ → Tree → Tree → Type 0
Edited a table count path source grown t u = Replaces (view a (Held table)) count path (view a source) grown (2 * limit a) t u
