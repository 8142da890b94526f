-- What the program prints.
use Rattle.std.specs.Prelude.{ℕ, List}
use Rattle.records.specs.Reading.{then}
use Rattle.model.specs.Rulebooks.{plate_meaning}
use Rattle.ledger.specs.Answers.{load_answer, draw_answer}
use Rattle.service.specs.Service.{reported}

-- The most nodes of a tree in an area of 16,384 words.
abbrev pub most_nodes : ℕ
most_nodes = 240

-- Of three record files: the report of the round that is drawn when they are loaded, or the line of the first refusal.
abbrev pub printed : List ℕ → List ℕ → List ℕ → List ℕ
printed archive field bench =
    reported (then (load_answer plate_meaning most_nodes archive field bench) (draw_answer plate_meaning most_nodes))
