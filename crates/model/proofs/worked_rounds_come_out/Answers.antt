use Rattle.model.proofs.Worked.{worked_rounds_come_out}
use Rattle.model.proofs.worked_rounds_come_out.Goals as goal

pub returns : goal.returns
returns c = worked_rounds_come_out
