use Rattle.std.proofs.Common.{◌∙◌}
use Rattle.draw.proofs.Printing.{limit_is, made_so, nothing_made, prints}
use Rattle.draw.proofs.describe.Goals as goal

pub returns-in_err-came : goal.returns-in_err-came
returns-in_err-came c = nothing_made _ c.from_residual-in_err-came.result c.from_residual-in_err-came.ensures.0

pub returns : goal.returns
returns c =
    let l = limit_is _ c.in_ok-words.ensures.len in
    let x = c.in_ok-came.ensures in
    made_so c.text.result c.text.ensures (λ v e. e ∙ prints c.as_slice.result c.as_slice-2.result c.as_slice-3.result _ _ _ _ _ _ c.as_slice.ensures.value c.as_slice-2.ensures.value c.as_slice-3.ensures.value l x.stands_as_the_ledger_says x.answers_as_the_ledger_says)
