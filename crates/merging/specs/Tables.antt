-- Things of which there is one for each table.
use Rattle.std.specs.Prelude.{◌≡◌, ℕ, true, false, T, List}
use Rattle.model.specs.Trees.{Tree, present, missing, WellFormed}
use Rattle.model.specs.Round.{Outcome}
use Rattle.stored.specs.Lookup.{Spot, at_of, is_found}
use Rattle.stored.specs.Words.{Stands}
use Rattle.area.specs.Views.{view}
use Rattle.area.specs.declared.types.Area.{Area}
use Rattle.tables.specs.Pick.{pick}
use Rattle.tables.specs.declared.Table.{Table}
use Rattle.tables.specs.declared.Table.TheVariants.{Archive, Field, Bench}
use Rattle.area.specs.declared.regions.Region.TheVariants.{Tree as Old}
use Rattle.tables.specs.declared.Three.{Three}
use Rattle.merging.specs.declared.types.Here.{Here}

-- The trees that the tables hold.
abbrev pub sources : Area → Table → List ℕ
sources area t = view area (Old t)

-- Numbers of nodes.
abbrev pub Sizes : Type 0
Sizes = Three ℕ

abbrev pub spot : Table → Here → Spot
spot t h = pick t h.places

abbrev pub tree_of : Table → Outcome → Tree
tree_of Archive r = r.archive
tree_of Field r = r.field
tree_of Bench r = r.bench

abbrev pub trees : Tree → Tree → Tree → Table → Tree
trees o a b Archive = o
trees o a b Field = a
trees o a b Bench = b

-- In `ws` a tree stands under the name k where a lookup stopped, or the name is missing there.
pub data At (ws : List ℕ) (k : ℕ) (s : Spot) : Tree → Type 0 where
  gone : is_found s ≡ false → At ws k s missing
  there :
      {t : Tree} {rest : List ℕ} {p : T (present t)} {w : WellFormed t}
      → is_found s ≡ true
      → Stands ws (at_of s) (record { name = k; tree = t; rest = rest; is_present = p; well_formed = w })
      → At ws k s t
