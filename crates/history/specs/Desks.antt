-- What stands on a desk, in the ledger's terms.
use Rattle.std.specs.Prelude.{ℕ, List, [], ◌∷◌, Some, None, Option}
use Rattle.refusals.specs.declared.Refusal.{Refusal}
use Rattle.text.specs.Text.{refusal_line}
use Rattle.text.specs.Report.{report}
use Rattle.ledger.specs.declared.Answer.{Answer}
use Rattle.ledger.specs.Ledger.{State, file, drawn, refused_in}
use Rattle.service.specs.Service.{limit, of_file, of_round, round_limit, reported}
use Rattle.history.specs.declared.types.Desk.{Desk}
use Rattle.history.specs.declared.types.Desk.TheVariants.{File, Round}

abbrev pub state_of : Desk → State
state_of (File f) = of_file f
state_of (Round r) = of_round r

abbrev pub limit_of : Desk → ℕ
limit_of (File f) = limit f
limit_of (Round r) = round_limit r

-- The first refusal of a load, a put or a strike.
abbrev pub first_refused : List Answer → Option Refusal
first_refused [] = None
first_refused (a ∷ more) = elim (refused_in a) [ Some e ↦ Some e | None ↦ first_refused more ]

-- What is reported of a list of calls: the line of that refusal, if there is one, and else what stands.
abbrev pub report_of : State → List ℕ
report_of (file s) = report s
report_of (drawn s r) = reported r

abbrev pub replay_report : Option Refusal → State → List ℕ
replay_report (Some e) s = refusal_line e
replay_report None s = report_of s
