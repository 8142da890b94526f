use Rattle.model.proofs.Theorems.{outcome_is_well_formed}
use Rattle.model.proofs.outcome_is_well_formed.Goals as goal

pub returns : goal.returns
returns c = outcome_is_well_formed
