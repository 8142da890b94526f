use Rattle.model.proofs.Obeying.{puts_obey}
use Rattle.model.proofs.puts_obey.Goals as goal

pub returns : goal.returns
returns c = puts_obey
