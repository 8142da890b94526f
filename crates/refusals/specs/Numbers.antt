-- The numbers of refusals, layers and trees.
use Rattle.std.specs.Prelude.{ℕ}
use Rattle.refusals.specs.declared.Reason.{Reason}
use Rattle.refusals.specs.declared.Reason.TheVariants.{Short, Trailer, Record, Count, Depth, Crowded, Disobeys, Path, Edit, Outcome, Output}
use Rattle.refusals.specs.declared.Layer.{Layer}
use Rattle.refusals.specs.declared.Layer.TheVariants.{Records, Rulebook, Service}
use Rattle.refusals.specs.declared.Whose.{Whose}
use Rattle.refusals.specs.declared.Whose.TheVariants.{Nobody, Archive, Field, Bench, Brought}
use Rattle.refusals.specs.declared.Refusal.{Refusal}

abbrev pub number_of : Reason → ℕ
number_of Short = 1
number_of Trailer = 2
number_of Record = 3
number_of Count = 4
number_of Depth = 5
number_of Crowded = 6
number_of Disobeys = 7
number_of Path = 8
number_of Edit = 9
number_of Outcome = 10
number_of Output = 11

-- Record bytes, the rulebook, or the service file.
abbrev pub layer_of : Reason → Layer
layer_of Short = Records
layer_of Trailer = Records
layer_of Record = Records
layer_of Count = Records
layer_of Depth = Records
layer_of Crowded = Service
layer_of Disobeys = Rulebook
layer_of Path = Service
layer_of Edit = Rulebook
layer_of Outcome = Service
layer_of Output = Service

abbrev pub layer_number : Layer → ℕ
layer_number Records = 1
layer_number Rulebook = 2
layer_number Service = 3

abbrev pub whose_number : Whose → ℕ
whose_number Nobody = 0
whose_number Archive = 1
whose_number Field = 2
whose_number Bench = 3
whose_number Brought = 4

abbrev pub refused : Reason → Whose → ℕ → Refusal
refused r w p = record { reason = r; whose = w; place = p }
