-- The report of a round.
use Rattle.std.specs.Prelude.{ℕ, List, ◌++◌, codes, decimal}
use Rattle.model.specs.Trees.{marks}
use Rattle.model.specs.Round.{Outcome}
use Rattle.text.specs.Text.{text}

-- A line of a word and bytes.
abbrev pub labelled : List ℕ → List ℕ → List ℕ
labelled word bytes = (word ++ bytes) ++ codes "\n"

-- Four lines: how many marks the archive has, and the text of each of the three trees.
abbrev pub report : Outcome → List ℕ
report r =
    labelled (codes "marks ") (decimal (marks r.archive))
    ++ (labelled (codes "archive ") (text r.archive)
    ++ (labelled (codes "field ") (text r.field)
    ++ labelled (codes "bench ") (text r.bench)))
