use Rattle.records.proofs.Fits.{read_is_written}
use Rattle.records.proofs.read_is_written.Goals as goal

pub returns : goal.returns
returns c = read_is_written
