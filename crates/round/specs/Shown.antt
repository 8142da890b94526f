-- The text of the tree of a record file.
use Rattle.std.specs.Prelude.{◌≡◌, ℕ, List, Some, Ok, Err, Result}
use Rattle.model.specs.Trees.{Tree}
use Rattle.refusals.specs.declared.Refusal.{Refusal}
use Rattle.refusals.specs.declared.Whose.{Whose}
use Rattle.refusals.specs.Output.{told, left}
pub use Rattle.records.specs.Reading.{an_archive}
use Rattle.model.specs.Rulebooks.{plate_meaning}
use Rattle.records.specs.Reading.{says, then}
use Rattle.obeying.specs.Lawful.{lawful, copy_of}
use Rattle.text.specs.Text.{text}

-- What the file of a copy says, held to plate.
abbrev pub a_copy : Whose → List ℕ → Result Tree Refusal
a_copy whose bs = then (says bs (copy_of whose 0)) (lawful plate_meaning (Some 0) whose)

-- The answer: how long the text is, or why there is none.
abbrev pub length_shown : Result Tree Refusal → List ℕ → Result ℕ Refusal
length_shown (Ok t) old = told (text t) old
length_shown (Err e) old = Err e

-- What the output then holds.
abbrev pub output_shown : Result Tree Refusal → List ℕ → List ℕ
output_shown (Ok t) old = left (text t) old
output_shown (Err e) old = old

-- The first of three refusals, if there is one.
abbrev pub all_shown : Result ℕ Refusal → Result ℕ Refusal → Result ℕ Refusal → Result (Unit {0}) Refusal
all_shown a f b = then a (λ _. then f (λ _. then b (λ _. Ok tt)))

-- Bytes are the text of the tree that a file says, if it says one.
abbrev pub TextOf : Result Tree Refusal → List ℕ → Type 0
TextOf (Ok t) bytes = bytes ≡ text t
TextOf (Err e) bytes = Unit {0}
