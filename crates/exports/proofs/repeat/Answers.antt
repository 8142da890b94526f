use Rattle.std.proofs.Common.{refl, arith}
use Rattle.merging.proofs.Laws.{still_held}
use Rattle.exports.proofs.repeat.Goals as goal

pub loop-i-init : goal.loop-i-init
loop-i-init c o a b h r = (h, λ z. absurd (omega arith))

pub round-made-requires : goal.round-made-requires
round-made-requires c =
    let p = c.requires in
    record { given = (p.0, p.1, p.2, (c.loop-i.invariant p.0 p.1 p.2 p.3 p.4).0, p.4) }

pub loop-i-preserved : goal.loop-i-preserved
loop-i-preserved c o a b h r =
    let k = (c.loop-i.invariant o a b h r).0 in
    (still_held c.round-made.ensures.only (λ t. refl) k, λ z. c.round-made.ensures.merged o a b k r)

pub returns : goal.returns
returns c o a b h r l = (c.loop-i.invariant o a b h r).1 (omega arith)
