use Rattle.std.proofs.Common.{arith, rules}
use Rattle.rules.proofs.Runs.{run_of_four, run_goes_on, run_begins, run_past}
use Rattle.rules.proofs.names.four_in_a_row.Goals as goal
use Rattle.rules.proofs.names.four_in_a_row.Goals.{then-number-next, else-number-next}

pub returns-then-run-eq-RUN : goal.returns-then-run-eq-RUN
returns-then-run-eq-RUN c =
    elim c.if-number-next.branch [
      | then-number-next w ↦ search (rules, run_goes_on, run_of_four)
      | else-number-next w ↦ absurd (omega arith)
    ]

pub loop-name-preserved : goal.loop-name-preserved
loop-name-preserved c =
    elim c.if-number-next.branch [
      | then-number-next w ↦ (omega arith, omega arith, search (rules, run_goes_on))
      | else-number-next w ↦ (omega arith, omega arith, search (rules, run_begins))
    ]

pub returns : goal.returns
returns c = search (rules, run_past)
