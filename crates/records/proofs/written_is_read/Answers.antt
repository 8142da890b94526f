use Rattle.records.proofs.Fits.{written_is_read}
use Rattle.records.proofs.written_is_read.Goals as goal

pub returns : goal.returns
returns c = written_is_read
