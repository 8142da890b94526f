-- What a lookup of the next name tells.
use Rattle.std.specs.Prelude.{◌≡◌, ℕ, ◌+◌, ◌≤◌, true, ◌||◌, List}
use Rattle.model.specs.Trees.{Tree, Forest, empty, child, find, nodes}
use Rattle.stored.specs.Lookup.{Between, from_on, starts}
use Rattle.stored.specs.Lookup.{Spot, at_of}
use Rattle.area.specs.declared.types.Area.{Area}
use Rattle.tables.specs.declared.Table.{Table}
use Rattle.tables.specs.declared.Table.TheVariants.{Field, Bench}
use Rattle.merging.specs.Tables.{Sizes}
use Rattle.merging.specs.declared.types.Here.{Here}
use Rattle.merging.specs.Tables.{At, spot, sources}
use Rattle.tables.specs.Pick.{pick}

-- Trees that stand where lookups of one name stopped.
abbrev pub Finds : Area → Here → (Table → Tree) → Type 0
Finds area h ts = (t : Table) → At (sources area t) h.name (spot t h) (ts t)

-- The children that are left in each table.
abbrev pub Lies : (Table → List ℕ) → Sizes → Sizes → (Table → Forest) → Type 0
Lies source at ends left = (t : Table) → Between (source t) (pick t at) (pick t ends) (left t)

-- No name of an ascending forest is below k.
abbrev pub Floor : ℕ → Forest → Type 0
Floor k empty = Unit {0}
Floor k (child n t f) = k ≤ n

-- k is the lowest name of two ascending forests.
pub record Least (k : ℕ) (f g : Forest) : Type 0 where
  pub first_floor : Floor k f
  pub second_floor : Floor k g
  pub there : (starts k f || starts k g) ≡ true

-- What a lookup of k tells: the tree, and where the others are.
pub record Seen (ws : List ℕ) (from end k : ℕ) (f : Forest) (s : Spot) : Type 0 where
  pub since : from ≤ at_of s
  pub here : At ws k s (find f k)
  pub then : Between ws (at_of s + nodes (find f k)) end (from_on (k + 1) f)

pub record Looked (area : Area) (at ends : Sizes) (left : Table → Forest) (h : Here) : Type 0 where
  pub least : Least h.name (left Field) (left Bench)
  pub seen : (t : Table) → Seen (sources area t) (pick t at) (pick t ends) h.name (left t) (spot t h)
