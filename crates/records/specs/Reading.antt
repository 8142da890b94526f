-- What a record file says: a tree, or the first refusal.
use Rattle.std.specs.Prelude.{ℕ, zero, suc, ◌+◌, ◌-◌, ◌*◌, Bool, true, false, cond, ◌&&◌, ◌||◌, List, [], ◌∷◌, length, Ok, Err, Result, ◌==◌, nat_le, nat_lt, slice_index}
use Rattle.model.specs.Trees.{Tree, missing, mark, node, Forest, empty, child}
use Rattle.refusals.specs.declared.Reason.{Reason}
use Rattle.refusals.specs.declared.Reason.TheVariants.{Short, Trailer, Record, Count, Depth}
use Rattle.refusals.specs.declared.Whose.{Whose}
use Rattle.refusals.specs.declared.Whose.TheVariants.{Nobody, Archive, Field, Bench, Brought}
use Rattle.refusals.specs.declared.Refusal.{Refusal}
use Rattle.refusals.specs.Numbers.{refused}
use Rattle.records.specs.Bytes.{two_bytes, four_bytes, entries, node_code, tree_code, version}
use Rattle.records.specs.declared.Entry.{Entry}
use Rattle.records.specs.declared.NodeKind.TheVariants as node_kind
use Rattle.records.specs.declared.TreeKind.{TreeKind}
use Rattle.records.specs.declared.TreeKind.TheVariants as tree_kind
use Rattle.records.specs.declared.Wanted.{Wanted}
use Rattle.records.specs.declared.Elder.{Elder}
use Rattle.records.specs.declared.Elder.TheVariants.{Root, First, After}

-- The deepest level of a node, and the most nodes of a tree.
abbrev pub most_deep : ℕ
most_deep = 32

abbrev pub most_nodes : ℕ
most_nodes = 4096

-- The trees that are wanted of the files of a panel.
abbrev pub copy_of : Whose → ℕ → Wanted
copy_of whose depth = record { kind = tree_kind.Copy; whose = whose; depth = depth }

abbrev pub an_archive : Wanted
an_archive = record { kind = tree_kind.Archive; whose = Archive; depth = 0 }

-- A refusal told of the tree that is wanted.
abbrev pub no : Wanted → Reason → ℕ → Refusal
no w r p = refused r w.whose p

-- One after the other: the first refusal stands.
abbrev pub then : {X Y E : Type 0} → Result X E → (X → Result Y E) → Result Y E
then (Ok x) g = g x
then (Err e) g = Err e

-- The root's name is 0, a first child has any name, and another child one above its elder sibling's.
abbrev pub named : Elder → ℕ → Bool
named Root n = n == 0
named First n = true
named (After m) n = nat_lt m n

abbrev pub may_mark : TreeKind → Bool
may_mark tree_kind.Copy = false
may_mark tree_kind.Archive = true

-- A record that is right but for its name: a node, or in an archive a mark without children.
abbrev pub plain : TreeKind → Entry → Bool
plain k e =
    (e.last == 0)
    && (e.kind == node_code node_kind.Tree || (e.kind == node_code node_kind.Mark && (may_mark k && e.children == 0)))

abbrev pub right : TreeKind → Elder → Entry → Bool
right k el e = plain k e && named el e.name

abbrev pub planted : Entry → Forest → Tree
planted e f = cond (e.kind == node_code node_kind.Mark) mark (node f)

-- The offset of the first of the records that are left, or of the trailer, at `end`, where none is left.
abbrev pub here : ℕ → List Entry → ℕ
here end es = end - 8 * length es

-- Siblings, each with all below it, and the records behind them.
pub record Grown : Type 0 where
  pub row : Forest
  pub rest : List Entry

abbrev pub grown : Forest → List Entry → Grown
grown f es = record { row = f; rest = es }

-- Reads so many siblings where nodes may stand on `room` levels, their own the first. Of each record it is asked whether it is there, then
-- whether it is too deep, then whether it is right.
abbrev pub read : Wanted → ℕ → ℕ → ℕ → Elder → List Entry → Result Grown Refusal
read w end room zero el es = Ok (grown empty es)
read w end room (suc k) el [] = Err (no w Count (here end []))
read w end zero (suc k) el (e ∷ es) = Err (no w Depth (here end (e ∷ es)))
read w end (suc room) (suc k) el (e ∷ es) =
    cond (right w.kind el e)
    (then (read w end room e.children First es) (λ g.
    then (read w end (suc room) k (After e.name) g.rest) (λ h.
    Ok (grown (child e.name (planted e g.row) h.row) h.rest))))
    (Err (no w Record (here end (e ∷ es))))

-- A reading of siblings of which only the records behind them, or the refusal, are kept.
abbrev pub rests : Result Grown Refusal → Result (List Entry) Refusal
rests (Ok g) = Ok g.rest
rests (Err e) = Err e

abbrev pub sole : Forest → Tree
sole empty = missing
sole (child n t f) = t

-- Behind the root and all below it no record may be left.
abbrev pub closed : Wanted → ℕ → Grown → Result Tree Refusal
closed w end g = elim g.rest [ [] ↦ Ok (sole g.row) | e ∷ es ↦ Err (no w Count (here end g.rest)) ]

-- A tree that is brought to be put somewhere cannot be missing; any other can.
abbrev pub may_miss : Whose → Bool
may_miss Nobody = true
may_miss Archive = true
may_miss Field = true
may_miss Bench = true
may_miss Brought = false

-- Nodes may stand on the levels from the depth of the root to the deepest.
abbrev pub whole : Wanted → ℕ → List Entry → Result Tree Refusal
whole w end [] = cond (may_miss w.whose) (Ok missing) (Err (no w Count end))
whole w end (e ∷ es) = then (read w end (suc most_deep - w.depth) 1 Root (e ∷ es)) (closed w end)

-- The last eight bytes: distance of the first record from the end, number of nodes, kind, version.
pub record Tail : Type 0 where
  pub distance : ℕ
  pub number : ℕ
  pub kind : ℕ
  pub version : ℕ

abbrev pub tail_at : List ℕ → ℕ → Tail
tail_at bs at =
    record { distance = four_bytes bs at; number = two_bytes bs (at + 4); kind = slice_index bs (at + 6); version = slice_index bs (at + 7) }

-- The trailer is laid out as a record is.
abbrev pub tail_of : Entry → Tail
tail_of e = record { distance = e.name; number = e.children; kind = e.kind; version = e.last }

abbrev pub sealed : TreeKind → ℕ → Tail → Bool
sealed k len t =
    (t.version == version)
    && (t.kind == tree_code k && (nat_le t.number most_nodes && (t.distance == 8 * t.number + 8 && nat_le t.distance len)))

abbrev pub records_of : List ℕ → ℕ → Tail → List Entry
records_of bs len t = entries t.number bs (len - (8 * t.number + 8))

-- What the bytes say. Those before the first record are a preface, and are passed over.
abbrev pub says : List ℕ → Wanted → Result Tree Refusal
says bs w =
    let len = length bs in
    let t = tail_at bs (len - 8) in
    cond (nat_lt len 8) (Err (no w Short len))
    (cond (sealed w.kind len t) (whole w (len - 8) (records_of bs len t)) (Err (no w Trailer (len - 8))))

-- The number of records before a trailer that is right.
abbrev pub located : List ℕ → Wanted → Result ℕ Refusal
located bs w =
    let len = length bs in
    let t = tail_at bs (len - 8) in
    cond (nat_lt len 8) (Err (no w Short len)) (cond (sealed w.kind len t) (Ok t.number) (Err (no w Trailer (len - 8))))

-- A reading of which only the refusal, if any, is kept.
abbrev pub passed : {X Y : Type 0} → Y → Result X Refusal → Result Y Refusal
passed y (Ok x) = Ok y
passed y (Err e) = Err e
