-- Trees in records.
use Rattle.std.specs.Prelude.{◌≡◌, T, List, ◌∷◌}
use Rattle.model.specs.Trees.{Tree, present, WellFormed}
use Rattle.records.specs.Writing.{tell}
use Rattle.records.specs.declared.Entry.{Entry}

-- A record and those behind it are the records of a tree, and then more.
pub record Heads (e : Entry) (es : List Entry) (t : Tree) (more : List Entry) : Type 0 where
  pub is_present : T (present t)
  pub well_formed : WellFormed t
  pub told : e ∷ es ≡ tell t e.name more
