use Rattle.std.proofs.Common.{arith}
use Rattle.text.proofs.RefusalLay.lay.Goals as goal

pub returns-clause-short : goal.returns-clause-short
returns-clause-short c = omega (arith, c.put_line.ensures.short)
