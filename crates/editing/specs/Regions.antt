-- The regions that hold trees.
use Rattle.std.specs.Prelude.{Bool, true, false}
use Rattle.area.specs.declared.regions.Region.{Region}
use Rattle.area.specs.declared.regions.Region.TheVariants.{Tree, New, Stack, Names}

abbrev pub holds_trees : Region → Bool
holds_trees (Tree t) = true
holds_trees (New t) = true
holds_trees Stack = false
holds_trees Names = false
