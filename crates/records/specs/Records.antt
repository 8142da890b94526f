-- The records of a tree, and the tree that records say.
use Rattle.std.specs.Prelude.{◌≡◌, ℕ, ◌≤◌, List, [], Ok, Err, Result}
use Rattle.model.specs.Trees.{Tree, missing, WellFormed, Named, is_name, nodes, depth}
use Rattle.refusals.specs.declared.Refusal.{Refusal}
use Rattle.refusals.specs.declared.Whose.TheVariants.{Nobody}
use Rattle.records.specs.Bytes.{entries_of}
use Rattle.records.specs.Reading.{whole, most_deep, most_nodes}
use Rattle.records.specs.Writing.{tell}
use Rattle.records.specs.declared.TreeKind.TheVariants.{Archive}
use Rattle.records.specs.declared.Wanted.{Wanted}

-- These are the records of this tree, which is within the limits.
pub record Tells (rs : List (List ℕ)) (t : Tree) : Type 0 where
  pub well_formed : WellFormed t
  pub shallow : depth t ≤ most_deep
  pub few : nodes t ≤ most_nodes
  pub narrow : Named is_name t
  pub told : entries_of rs ≡ tell t 0 []

-- Any tree is wanted, marks and all.
abbrev pub any : Wanted
any = record { kind = Archive; whose = Nobody; depth = 0 }

abbrev pub or_missing : Result Tree Refusal → Tree
or_missing (Ok t) = t
or_missing (Err e) = missing

-- The tree that records say.
unfoldable pub tree_in : List (List ℕ) → Tree
tree_in rs = or_missing (whole any 0 (entries_of rs))
