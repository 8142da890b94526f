use Rattle.std.proofs.Common.{length, arith, ap}
use Rattle.stored.specs.Nodes.{entries}
use Rattle.stored.proofs.Once.{open_all}
use Rattle.stored.proofs.Own.{head_of, none_of, first_owns, others_own, siblings_step}
use Rattle.stored.proofs.SiblingsIterator.next.Goals as goal

pub returns-then-words-eq0-clause-steps : goal.returns-then-words-eq0-clause-steps
returns-then-words-eq0-clause-steps c =
    let e = ap entries (none_of (open_all c.args.self.now.ok) c.if-words-eq0.true) in (e, e)

pub bounds-words-1 : goal.bounds-words-1
bounds-words-1 c = let h = head_of (open_all c.args.self.now.ok) c.if-words-eq0.false in omega (arith, h.long, h.one)

pub split_at-requires : goal.split_at-requires
split_at-requires c = let h = head_of (open_all c.args.self.now.ok) c.if-words-eq0.false in omega (arith, h.long, h.size)

pub invariant_of-self : goal.invariant_of-self
invariant_of-self c =
    let h = head_of (open_all c.args.self.now.ok) c.if-words-eq0.false in
    record { ok = ∣ others_own h c.split_at.ensures.back ∣₁ }

pub invariant_of-result : goal.invariant_of-result
invariant_of-result c =
    let h = head_of (open_all c.args.self.now.ok) c.if-words-eq0.false in
    record { ok = ∣ first_owns h c.split_at.ensures.front ∣₁ }

pub returns : goal.returns
returns c =
    let h = head_of (open_all c.args.self.now.ok) c.if-words-eq0.false in
    let steps = siblings_step h c.split_at.ensures.front c.split_at.ensures.back in
    record { steps = steps; goes = record { on = λ _. (tt, tt, omega (arith, ap length steps)); keeps = tt; rests = λ _. tt } }
