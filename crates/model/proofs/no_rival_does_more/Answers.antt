use Rattle.model.proofs.Theorems.{no_rival_does_more}
use Rattle.model.proofs.no_rival_does_more.Goals as goal

pub returns : goal.returns
returns c = no_rival_does_more
