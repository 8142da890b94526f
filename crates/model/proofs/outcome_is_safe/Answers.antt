use Rattle.model.proofs.Theorems.{outcome_is_safe}
use Rattle.model.proofs.outcome_is_safe.Goals as goal

pub returns : goal.returns
returns c = outcome_is_safe
