use Rattle.text.proofs.Laying.{then}
use Rattle.text.proofs.output.Output.put_field.Goals as goal

pub returns : goal.returns
returns c = then c.put_bytes.ensures c.put_number.ensures
