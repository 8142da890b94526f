-- Which bytes are the file of a tree, said without reading them.
use Rattle.std.specs.Prelude.{◌≡◌, ℕ, ◌+◌, ◌-◌, ◌*◌, ◌<◌, ◌≤◌, true, ◌||◌, T, List, length, drop, Ok, slice_index}
use Rattle.model.specs.Trees.{Tree, WellFormed, Named, is_name, present, nodes, depth, marks}
use Rattle.records.specs.Reading.{says, may_miss, most_deep, most_nodes}
use Rattle.records.specs.Writing.{written}
use Rattle.records.specs.declared.TreeKind.{TreeKind}
use Rattle.records.specs.declared.TreeKind.TheVariants.{Copy}
use Rattle.records.specs.declared.Wanted.{Wanted}

-- A tree that may be wanted: within the limits, and without marks if it is a copy.
pub record Fits (w : Wanted) (t : Tree) : Type 0 where
  pub well_formed : WellFormed t
  pub stands : (may_miss w.whose || present t) ≡ true
  pub shallow : T (present t) → w.depth + depth t ≤ most_deep
  pub few : nodes t ≤ most_nodes
  pub narrow : Named is_name t
  pub unmarked : w.kind ≡ Copy → marks t ≡ 0

-- Bytes that are a preface of any length, and then the file of a tree.
pub record EndsWith (bs : List ℕ) (t : Tree) (k : TreeKind) : Type 0 where
  pub long : 8 * nodes t + 8 ≤ length bs
  pub file : drop (length bs - (8 * nodes t + 8)) bs ≡ written t k

abbrev pub Bytes : List ℕ → Type 0
Bytes bs = (i : ℕ) → slice_index bs i < 256

-- A file that ends with a tree that fits is read as that tree.
abbrev pub WrittenIsRead : Type 0
WrittenIsRead = (bs : List ℕ) (w : Wanted) (t : Tree) → Fits w t → EndsWith bs t w.kind → says bs w ≡ Ok t

-- And a file is read as nothing else. So one without a preface is, byte for byte, what is written of the tree that it is read as.
abbrev pub ReadIsWritten : Type 0
ReadIsWritten =
    (bs : List ℕ) (w : Wanted) (t : Tree) → Bytes bs → says bs w ≡ Ok t → Fits w t × EndsWith bs t w.kind
