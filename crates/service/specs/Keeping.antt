-- Three trees in the regions of an area.
use Rattle.std.specs.Prelude.{◌≡◌, ◌≤◌, Ok, Err, Result}
use Rattle.model.specs.Trees.{nodes, marks}
use Rattle.model.specs.Round.{Outcome, outcome}
use Rattle.refusals.specs.declared.Refusal.{Refusal}
use Rattle.stored.specs.Words.{Holds}
use Rattle.area.specs.Views.{view, limit}
use Rattle.area.specs.declared.types.Area.{Area}
use Rattle.tables.specs.declared.Table.{Table}
use Rattle.tables.specs.declared.Table.TheVariants.{Archive, Field, Bench}
use Rattle.area.specs.declared.regions.Region.{Region}
use Rattle.area.specs.declared.regions.Region.TheVariants.{Tree, New}
use Rattle.merging.specs.Tables.{Sizes}
use Rattle.stored.specs.Decoding.{tree_in}
use Rattle.service.specs.declared.types.Place.{Place}
use Rattle.service.specs.declared.types.Place.TheVariants as place

-- The trees of so many nodes, each in the region for its table.
abbrev pub trees_in : Area → (Table → Region) → Sizes → Outcome
trees_in a place n =
    outcome (tree_in (view a (place Archive)) n.archive) (tree_in (view a (place Field)) n.field) (tree_in (view a (place Bench)) n.bench)

-- The regions hold these trees, none of more nodes than the limit, and no mark stands in a copy.
pub record Kept (a : Area) (place : Table → Region) (n : Sizes) (s : Outcome) : Type 0 where
  pub archive : Holds (view a (place Archive)) n.archive s.archive
  pub field : Holds (view a (place Field)) n.field s.field
  pub bench : Holds (view a (place Bench)) n.bench s.bench
  pub archive_few : nodes s.archive ≤ limit a
  pub field_few : nodes s.field ≤ limit a
  pub bench_few : nodes s.bench ≤ limit a
  pub field_unmarked : marks s.field ≡ 0
  pub bench_unmarked : marks s.bench ≡ 0

abbrev pub region_of : Place → Table → Region
region_of place.Own t = Tree t
region_of place.Outcome t = New t

-- Trees are kept there, whichever they are.
abbrev pub KeepsAt : Area → Place → Sizes → Type 0
KeepsAt a x n = Kept a (region_of x) n (trees_in a (region_of x) n)

-- What a file relies on.
abbrev pub Keeps : Area → Sizes → Type 0
Keeps a n = KeepsAt a place.Own n

-- A round has its outcome beside those, unless the draw was refused.
abbrev pub Came : Area → Result Sizes Refusal → Type 0
Came a (Ok n) = KeepsAt a place.Outcome n
Came a (Err e) = Unit {0}
