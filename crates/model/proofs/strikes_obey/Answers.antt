use Rattle.model.proofs.Obeying.{strikes_obey}
use Rattle.model.proofs.strikes_obey.Goals as goal

pub returns : goal.returns
returns c = strikes_obey
