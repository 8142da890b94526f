-- Trees in words, on their way from records and to records.
use Rattle.std.specs.Prelude.{◌≡◌, ℕ, cond, List, length}
use Rattle.model.specs.Trees.{Tree, Forest, names, is_mark}
use Rattle.records.specs.Bytes.{entry, node_code}
use Rattle.records.specs.declared.Entry.{Entry}
use Rattle.records.specs.declared.NodeKind.TheVariants as node_kind
use Rattle.stored.specs.Words.{below, Row}

-- In `ws` so many trees stand from node number `at` on, one behind the other.
pub record Siblings (ws : List ℕ) (at many : ℕ) (f : Forest) : Type 0 where
  pub rest : List ℕ
  pub row : Row ws at f rest
  pub number : length (names f) ≡ many

-- The record of a tree's own node, under a name.
abbrev pub record_of : ℕ → Tree → Entry
record_of n t = entry n (length (names (below t))) (cond (is_mark t) (node_code node_kind.Mark) (node_code node_kind.Tree)) 0
