use Rattle.model.proofs.Faults.{no_fault_is_obeying}
use Rattle.model.proofs.no_fault_is_obeying.Goals as goal

pub returns : goal.returns
returns c = no_fault_is_obeying
