-- Where each region lies. Starts and widths count words for each node of the limit, and all regions together take no more than 64.
use Rattle.std.specs.Prelude.{ℕ, ◌+◌, ◌-◌, ◌*◌, ◌/◌, min}
use Rattle.tables.specs.declared.Table.{Table}
use Rattle.tables.specs.declared.Table.TheVariants.{Archive, Field, Bench}
use Rattle.area.specs.declared.regions.Region.{Region}
use Rattle.area.specs.declared.regions.Region.TheVariants.{Tree, New, Stack, Names}

-- The limit of an area of n words; the difference is 0 where n is below 1024.
unfoldable pub limit_of : ℕ → ℕ
limit_of n = min 4096 ((n - 1024) / 64)

abbrev pub slot : Table → ℕ
slot Archive = 0
slot Field = 1
slot Bench = 2

abbrev pub start : Region → ℕ
start (Tree t) = 3 * slot t
start (New t) = 9 + 6 * slot t
start Stack = 27
start Names = 43

abbrev pub width : Region → ℕ
width (Tree t) = 3
width (New t) = 6
width Stack = 16
width Names = 2
