-- Numbers and node records in bytes.
use Rattle.std.specs.Prelude.{ℕ, zero, suc, ◌+◌, ◌*◌, ◌/◌, ◌%◌, List, [], ◌∷◌, slice_index}
use Rattle.records.specs.declared.Entry.{Entry}
use Rattle.records.specs.declared.NodeKind.{NodeKind}
use Rattle.records.specs.declared.NodeKind.TheVariants.{Tree, Mark}
use Rattle.records.specs.declared.TreeKind.{TreeKind}
use Rattle.records.specs.declared.TreeKind.TheVariants.{Copy, Archive}

-- The kind of a node, as its record has it.
abbrev pub node_code : NodeKind → ℕ
node_code Tree = 0
node_code Mark = 1

-- The kind of a whole tree, as the trailer has it.
abbrev pub tree_code : TreeKind → ℕ
tree_code Copy = 1
tree_code Archive = 2

-- The last byte of every trailer.
abbrev pub version : ℕ
version = 1

-- The numbers in two and in four bytes, the highest byte first.
abbrev pub two_bytes : List ℕ → ℕ → ℕ
two_bytes bs at = 256 * slice_index bs at + slice_index bs (at + 1)

abbrev pub four_bytes : List ℕ → ℕ → ℕ
four_bytes bs at = 65536 * two_bytes bs at + two_bytes bs (at + 2)

-- A node record: name, number of children, kind, and a last byte that is 0.
abbrev pub entry : ℕ → ℕ → ℕ → ℕ → Entry
entry n c k l = record { name = n; children = c; kind = k; last = l }

abbrev pub entry_at : List ℕ → ℕ → Entry
entry_at bs at = entry (four_bytes bs at) (two_bytes bs (at + 4)) (slice_index bs (at + 6)) (slice_index bs (at + 7))

-- So many records, from an offset on.
abbrev pub entries : ℕ → List ℕ → ℕ → List Entry
entries zero bs at = []
entries (suc n) bs at = entry_at bs at ∷ entries n bs (at + 8)

-- Eight bytes as a record, and lists of eight bytes as records.
abbrev pub entry_of : List ℕ → Entry
entry_of bs = entry_at bs 0

abbrev pub entries_of : List (List ℕ) → List Entry
entries_of [] = []
entries_of (r ∷ rs) = entry_of r ∷ entries_of rs

-- A number in two bytes or four, and then other bytes.
abbrev pub put_two : ℕ → List ℕ → List ℕ
put_two n rest = n / 256 % 256 ∷ n % 256 ∷ rest

abbrev pub put_four : ℕ → List ℕ → List ℕ
put_four n rest = put_two (n / 65536) (put_two (n % 65536) rest)

abbrev pub put_entry : Entry → List ℕ → List ℕ
put_entry e rest = put_four e.name (put_two e.children (e.kind ∷ e.last ∷ rest))

abbrev pub put_all : List Entry → List ℕ → List ℕ
put_all [] rest = rest
put_all (e ∷ es) rest = put_entry e (put_all es rest)
