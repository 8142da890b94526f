-- A tree as records, and as a file.
use Rattle.std.specs.Prelude.{ℕ, ◌+◌, ◌*◌, List, [], ◌∷◌, length}
use Rattle.model.specs.Trees.{Tree, missing, mark, node, Forest, empty, child, names, nodes}
use Rattle.records.specs.Bytes.{entry, put_entry, put_all, node_code, tree_code, version}
use Rattle.records.specs.declared.Entry.{Entry}
use Rattle.records.specs.declared.NodeKind.TheVariants as node_kind
use Rattle.records.specs.declared.TreeKind.{TreeKind}

-- The records of a tree under a name, and then others: a node, then its children, each with all below it. What is missing has none.
abbrev mutual
  pub tell : Tree → ℕ → List Entry → List Entry
  tell missing n rest = rest
  tell mark n rest = entry n 0 (node_code node_kind.Mark) 0 ∷ rest
  tell (node f) n rest = entry n (length (names f)) (node_code node_kind.Tree) 0 ∷ tells f rest

  pub tells : Forest → List Entry → List Entry
  tells empty rest = rest
  tells (child n t f) rest = tell t n (tells f rest)

-- The trailer is laid out as a record is: distance, number of nodes, kind, version.
abbrev pub put_tail : ℕ → TreeKind → List ℕ
put_tail n w = put_entry (entry (8 * n + 8) n (tree_code w) version) []

-- The file of a tree: its records, the root under the name 0, and the trailer.
abbrev pub written : Tree → TreeKind → List ℕ
written t w = put_all (tell t 0 []) (put_tail (nodes t) w)
