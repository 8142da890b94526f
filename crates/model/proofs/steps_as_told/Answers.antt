use Rattle.model.proofs.Theorems.{steps_as_told}
use Rattle.model.proofs.steps_as_told.Goals as goal

pub returns : goal.returns
returns c = steps_as_told
