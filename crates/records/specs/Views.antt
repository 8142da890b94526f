-- The tree of a view, and where its records lie.
use Rattle.std.specs.Prelude.{◌≡◌, ℕ, ◌+◌, ◌-◌, ◌*◌, List, drop, length, Ok, Err, Result}
use Rattle.std.specs.Simd.{first_chunks}
use Rattle.model.specs.Trees.{Tree, nodes}
use Rattle.refusals.specs.declared.Refusal.{Refusal}
use Rattle.records.specs.Records.{tree_in}
use Rattle.records.specs.declared.view.View.{View}

abbrev pub tree_of : View → Tree
tree_of v = tree_in v.records.now

-- The answer of a reading, by its tree.
abbrev pub trees_of : Result View Refusal → Result Tree Refusal
trees_of (Ok v) = Ok (tree_of v)
trees_of (Err e) = Err e

-- So many records, right before the trailer of a file.
abbrev pub last_records : List ℕ → ℕ → List (List ℕ)
last_records bs n = first_chunks 8 n (drop (length bs - (8 * n + 8)) bs)

-- The records of a view are those before the trailer of these bytes, one for each node, and begin where the view says.
abbrev pub LiesIn : List ℕ → View → Type 0
LiesIn bs v = (v.start ≡ length bs - (8 * nodes (tree_of v) + 8)) × (v.records.now ≡ last_records bs (nodes (tree_of v)))
