use Rattle.std.proofs.Common.{arith}
use Rattle.stored.proofs.Once.{open_whole}
use Rattle.stored.proofs.Own.{length_whole}
use Rattle.stored.proofs.types.Held.node_count.Goals as goal

pub returns : goal.returns
returns c = omega (arith, length_whole (open_whole c.args.self.ok))
