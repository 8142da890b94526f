use Rattle.model.proofs.Tests.{worked_rounds_are_ready}
use Rattle.model.proofs.worked_rounds_are_ready.Goals as goal

pub returns : goal.returns
returns c = worked_rounds_are_ready
