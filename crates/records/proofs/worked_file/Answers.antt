use Rattle.std.proofs.Common.{refl}
use Rattle.records.proofs.worked_file.Goals as goal

pub returns : goal.returns
returns c = refl
