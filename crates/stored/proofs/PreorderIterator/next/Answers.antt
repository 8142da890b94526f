use Rattle.std.proofs.Common.{◌*◌, [], length, get_or, sym, refl, arith, ap}
use Rattle.std.proofs.lemmas.List.{length-take-le}
use Rattle.stored.specs.Nodes.{every_of}
use Rattle.stored.proofs.Once.{open_all}
use Rattle.stored.proofs.Own.{head_of, none_of, first_owns, inside_own, preorder_step}
use Rattle.stored.proofs.PreorderIterator.next.Goals as goal

pub returns-then-words-eq0-clause-steps : goal.returns-then-words-eq0-clause-steps
returns-then-words-eq0-clause-steps c =
    let e = ap (λ f. every_of f []) (none_of (open_all c.args.self.now.ok) c.if-words-eq0.true) in (e, e)

pub bounds-words-1 : goal.bounds-words-1
bounds-words-1 c = let h = head_of (open_all c.args.self.now.ok) c.if-words-eq0.false in omega (arith, h.long, h.one)

pub slice_bounds-result-end : goal.slice_bounds-result-end
slice_bounds-result-end c =
    let ws = c.args.self.now.words.now in
    let h = head_of (open_all c.args.self.now.ok) c.if-words-eq0.false in
    sym (length-take-le (3 * get_or ws 1 0) ws (omega (arith, h.long, h.size)))

pub slice_bounds-self-count : goal.slice_bounds-self-count
slice_bounds-self-count c = let h = head_of (open_all c.args.self.now.ok) c.if-words-eq0.false in omega (arith, h.long, h.one)

pub slice_bounds-self-start : goal.slice_bounds-self-start
slice_bounds-self-start c = let h = head_of (open_all c.args.self.now.ok) c.if-words-eq0.false in omega (arith, h.long, h.one)

pub invariant_of-self : goal.invariant_of-self
invariant_of-self c =
    let h = head_of (open_all c.args.self.now.ok) c.if-words-eq0.false in
    record { ok = ∣ inside_own h refl ∣₁ }

pub invariant_of-result : goal.invariant_of-result
invariant_of-result c =
    let h = head_of (open_all c.args.self.now.ok) c.if-words-eq0.false in
    record { ok = ∣ first_owns h refl ∣₁ }

pub returns : goal.returns
returns c =
    let h = head_of (open_all c.args.self.now.ok) c.if-words-eq0.false in
    let steps = preorder_step h refl refl in
    record { steps = steps; goes = record { on = λ _. (tt, tt, omega (arith, ap length steps)); keeps = tt; rests = λ _. tt } }
