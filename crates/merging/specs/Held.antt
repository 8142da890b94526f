-- What a round finds in the area, and what it leaves there.
use Rattle.std.specs.Prelude.{◌≡◌, ◌*◌, ◌≤◌, [], take}
use Rattle.model.specs.Trees.{Tree, nodes}
use Rattle.model.specs.Round.{Outcome}
use Rattle.stored.specs.Words.{emit, Holds}
use Rattle.area.specs.Views.{view, limit}
use Rattle.area.specs.declared.types.Area.{Area}
use Rattle.tables.specs.declared.Table.{Table}
use Rattle.tables.specs.declared.Table.TheVariants.{Archive, Field, Bench}
use Rattle.area.specs.declared.regions.Region.TheVariants.{Tree as Old, New}
use Rattle.merging.specs.Tables.{Sizes}
use Rattle.merging.specs.Tables.{tree_of}
use Rattle.tables.specs.Pick.{pick}

-- The area holds the archive o, the field copy a and the bench copy b, each of so many nodes, and none of more than the limit.
pub record Held (area : Area) (sizes : Sizes) (o a b : Tree) : Type 0 where
  pub archive : Holds (view area (Old Archive)) sizes.archive o
  pub field : Holds (view area (Old Field)) sizes.field a
  pub bench : Holds (view area (Old Bench)) sizes.bench b
  pub archive_few : nodes o ≤ limit area
  pub field_few : nodes a ≤ limit area
  pub bench_few : nodes b ≤ limit area

-- The new regions begin with the trees of an outcome, of so many nodes.
pub record Merged (target : Outcome) (area : Area) (new : Sizes) : Type 0 where
  pub counts : (t : Table) → pick t new ≡ nodes (tree_of t target)
  pub words : (t : Table) → take (3 * pick t new) (view area (New t)) ≡ emit (tree_of t target) 0 []
