use Rattle.text.proofs.Laying.{more}
use Rattle.text.proofs.output.Output.put_bytes.Goals as goal

pub loop-byte-preserved : goal.loop-byte-preserved
loop-byte-preserved c = more c.args.bytes.now c.loop-byte.byte-index c.loop-byte-test.true c.loop-byte.invariant c.put.ensures
