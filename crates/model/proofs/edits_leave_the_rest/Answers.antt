use Rattle.model.proofs.Edits.{edits_leave_the_rest}
use Rattle.model.proofs.edits_leave_the_rest.Goals as goal

pub returns : goal.returns
returns c = edits_leave_the_rest
