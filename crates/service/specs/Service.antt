-- What a file and a round hold, in the ledger's terms.
use Rattle.std.specs.Prelude.{◌≡◌, ℕ, List, Ok, Err, Result}
use Rattle.model.specs.Trees.{Tree as TheTree}
use Rattle.model.specs.Round.{Outcome}
use Rattle.refusals.specs.declared.Refusal.{Refusal}
use Rattle.refusals.specs.declared.Whose.TheVariants as whose
use Rattle.records.specs.declared.Wanted.{Wanted}
use Rattle.records.specs.declared.TreeKind.{TreeKind}
use Rattle.records.specs.declared.TreeKind.TheVariants as kind
use Rattle.obeying.specs.Lawful.{copy_of}
use Rattle.area.specs.Views.{limit as limit_in}
use Rattle.area.specs.declared.types.Area.{Area}
use Rattle.tables.specs.declared.Table.{Table}
use Rattle.tables.specs.declared.Table.TheVariants.{Archive, Field, Bench}
use Rattle.area.specs.declared.regions.Region.TheVariants.{Tree, New}
use Rattle.merging.specs.Tables.{Sizes}
use Rattle.loading.specs.Loads.{an_archive}
use Rattle.text.specs.Text.{refusal_line}
use Rattle.text.specs.Report.{report}
use Rattle.ledger.specs.Ledger.{State, file, drawn}
use Rattle.service.specs.declared.types.File.{File}
use Rattle.service.specs.declared.types.Round.{Round}
use Rattle.service.specs.declared.types.Shown.{Shown}
use Rattle.service.specs.Keeping.{trees_in, region_of}

-- The trees of a file, and the most nodes that one may have.
abbrev pub trees : File → Outcome
trees f = trees_in f.area Tree f.sizes

abbrev pub limit : File → ℕ
limit f = limit_in f.area

abbrev pub of_file : File → State
of_file f = file (trees f)

-- A call left the trees and the limit as they were.
pub record Same (before after : File) : Type 0 where
  pub trees_stay : trees after ≡ trees before
  pub limit_stays : limit after ≡ limit before

-- The trees that a round was drawn from, and what the draw came to.
abbrev pub before : Round → Outcome
before r = trees r.file

abbrev pub outcome_in : Area → Result Sizes Refusal → Result Outcome Refusal
outcome_in a (Ok n) = Ok (trees_in a New n)
outcome_in a (Err e) = Err e

abbrev pub came : Round → Result Outcome Refusal
came r = outcome_in r.file.area r.drawn

abbrev pub of_round : Round → State
of_round r = drawn (before r) (came r)

abbrev pub round_limit : Round → ℕ
round_limit r = limit r.file

-- The trees that are read.
abbrev pub shown : Shown → Outcome
shown s = trees_in s.area.now (region_of s.place) s.sizes

-- One of three trees, and the kind of its record file.
abbrev pub pick : Table → Outcome → TheTree
pick Archive s = s.archive
pick Field s = s.field
pick Bench s = s.bench

abbrev pub kind_of : Table → TreeKind
kind_of Archive = kind.Archive
kind_of Field = kind.Copy
kind_of Bench = kind.Copy

-- The tree that a load wants of the record file for a table.
abbrev pub wanted_of : Table → Wanted
wanted_of Archive = an_archive
wanted_of Field = copy_of whose.Field 0
wanted_of Bench = copy_of whose.Bench 0

-- What a round reports: its outcome, or the line of the refusal of its draw.
abbrev pub reported : Result Outcome Refusal → List ℕ
reported (Ok t) = report t
reported (Err e) = refusal_line e
