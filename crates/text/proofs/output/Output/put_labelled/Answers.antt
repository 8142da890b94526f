use Rattle.text.proofs.Laying.{then}
use Rattle.text.proofs.output.Output.put_labelled.Goals as goal

pub returns : goal.returns
returns c = then (then c.put_bytes.ensures c.put_text.ensures) c.end_line.ensures
