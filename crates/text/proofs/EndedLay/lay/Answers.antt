use Rattle.std.proofs.Common.{arith}
use Rattle.text.proofs.Laying.{then}
use Rattle.text.proofs.Texts.{refusal_line_short}
use Rattle.text.proofs.EndedLay.lay.Goals as goal

pub returns : goal.returns
returns c =
    record {
      laid = then c.put_line.ensures.laid c.put.ensures;
      short = let l = refusal_line_short c.args.self.now.0 c.put_line.ensures.short in omega arith;
    }
