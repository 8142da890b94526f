use Rattle.std.proofs.Common.{arith}
use Rattle.text.proofs.Laying.{written}
use Rattle.text.proofs.write.Goals as goal

pub returns-then-needed-out-clause-output : goal.returns-then-needed-out-clause-output
returns-then-needed-out-clause-output g c =
    written (g.L.Lay.bytes c.args.what.now) c.args.out.now _ (omega (arith, c.lay_all-needed.ensures.length)) c.lay_all.ensures.output
