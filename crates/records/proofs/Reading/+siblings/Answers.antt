use Rattle.std.proofs.Common.{◌-◌, ◌*◌, length, Ok, Err, sym, refl, ap, ◌∙◌, arith}
use Rattle.std.proofs.lemmas.Result.{err_from_is_err_and}
use Rattle.refusals.specs.declared.Reason.TheVariants.{Record, Count, Depth}
use Rattle.records.specs.Bytes.{entries_of}
use Rattle.records.specs.Reading.{no, here}
use Rattle.records.proofs.Siblings.{given_ok, given_err, was_ok, was_err, place, split, none_left, seen, ran_out, too_deep, wrong, refused_below, next, last, done, no_more}
use Rattle.records.proofs.Reading.+siblings.Goals as goal

pub returns-in_default-clause-answer : goal.returns-in_default-clause-answer
returns-in_default-clause-answer t c =
    given_err _ _ c.refuse.result
    (ran_out c.loop-left-test.true (none_left c.loop-left.rest.now c.in_default.ensures.cases) c.loop-left.invariant.1
    ∙ ap Err (sym (place c.args.self.now.wanted Count c.args.self.now.end c.loop-left.rest.now) ∙ sym c.refuse.ensures)) refl

pub refuse-requires-then-room-eq0 : goal.refuse-requires-then-room-eq0
refuse-requires-then-room-eq0 t c = omega (arith, c.loop-left.invariant.0, c.requires)

pub returns-then-room-eq0-clause-answer : goal.returns-then-room-eq0-clause-answer
returns-then-room-eq0-clause-answer t c =
    let e = split c.in-Some.ensures.cases.0 refl in
    given_err _ _ c.refuse-then-room-eq0.result
    (too_deep c.loop-left-test.true c.if-room-eq0.true (seen e c.loop-left.invariant.1)
    ∙ ap (λ es. Err (no c.args.self.now.wanted Depth (here c.args.self.now.end es))) (sym e)
    ∙ ap Err (sym (place c.args.self.now.wanted Depth c.args.self.now.end c.loop-left.rest.now) ∙ sym c.refuse-then-room-eq0.ensures)) refl

pub refuse-requires-then-not-is_right : goal.refuse-requires-then-not-is_right
refuse-requires-then-not-is_right t c = omega (arith, c.loop-left.invariant.0, c.requires)

pub returns-then-not-is_right-clause-answer : goal.returns-then-not-is_right-clause-answer
returns-then-not-is_right-clause-answer t c =
    let e = split c.in-Some.ensures.cases.0 c.from-entry.ensures in
    given_err _ _ c.refuse-then-not-is_right.result
    (wrong c.loop-left-test.true (omega (arith, c.if-room-eq0.false)) (sym c.if-not-is_right.true ∙ c.is_right.ensures) (seen e c.loop-left.invariant.1)
    ∙ ap (λ es. Err (no c.args.self.now.wanted Record (here c.args.self.now.end es))) (sym e)
    ∙ ap Err (sym (place c.args.self.now.wanted Record c.args.self.now.end c.loop-left.rest.now) ∙ sym c.refuse-then-not-is_right.ensures)) refl

pub loop-left-preserved-then-left-eq0 : goal.loop-left-preserved-then-left-eq0
loop-left-preserved-then-left-eq0 t c =
    let e = split c.in-Some.ensures.cases.0 c.from-entry.ensures in
    (omega (arith, c.loop-left.invariant.0, c.in-Some.ensures.cases.1), last (omega (arith, c.loop-left-test.true, c.if-left-eq0.true)) (omega (arith, c.if-room-eq0.false)) (sym c.if-not-is_right.false ∙ c.is_right.ensures) (seen e c.loop-left.invariant.1))

pub leaves-requires : goal.leaves-requires
leaves-requires t c = omega (arith, c.loop-left.invariant.0, c.in-Some.ensures.cases.1, c.requires)

pub returns-in_err-behind-clause-answer : goal.returns-in_err-behind-clause-answer
returns-in_err-behind-clause-answer t c =
    let e = split c.in-Some.ensures.cases.0 c.from-entry.ensures in
    let p = err_from_is_err_and c.from_residual.result c.from_residual.ensures.1 in
    given_err _ _ _
    (refused_below c.loop-left-test.true (omega (arith, c.if-room-eq0.false)) (sym c.if-not-is_right.false ∙ c.is_right.ensures) (seen e c.loop-left.invariant.1) c.in_err-behind.ensures.refused) (p.1 ∙ ap Err p.2)

pub siblings-requires : goal.siblings-requires
siblings-requires t c =
    (omega (arith, c.loop-left.invariant.0, c.in-Some.ensures.cases.1, c.in_ok-behind.ensures.shorter, c.decreases), omega (arith, c.loop-left.invariant.0, c.in-Some.ensures.cases.1, c.in_ok-behind.ensures.shorter, c.requires))

pub returns-in_err-rest-clause-answer : goal.returns-in_err-rest-clause-answer
returns-in_err-rest-clause-answer t c =
    let e = split c.in-Some.ensures.cases.0 c.from-entry.ensures in
    let p = err_from_is_err_and c.from_residual-in_err-rest.result c.from_residual-in_err-rest.ensures.1 in
    let s = was_err _ _ _ c.in_err-rest.ensures.answer in
    given_err _ _ _
    (refused_below c.loop-left-test.true (omega (arith, c.if-room-eq0.false)) (sym c.if-not-is_right.false ∙ c.is_right.ensures) (seen e c.loop-left.invariant.1) (c.in_ok-behind.ensures.left ∙ s)) (p.1 ∙ ap Err p.2)

pub loop-left-preserved-in_ok-rest : goal.loop-left-preserved-in_ok-rest
loop-left-preserved-in_ok-rest t c =
    let e = split c.in-Some.ensures.cases.0 c.from-entry.ensures in
    let s = was_ok _ _ _ c.in_ok-rest.ensures.answer in (
      omega (arith, c.loop-left.invariant.0, c.in-Some.ensures.cases.1, c.in_ok-behind.ensures.shorter, c.in_ok-rest.ensures.shorter),
      next c.loop-left-test.true (omega (arith, c.if-room-eq0.false)) (sym c.if-not-is_right.false ∙ c.is_right.ensures) (seen e c.loop-left.invariant.1) (c.in_ok-behind.ensures.left ∙ s.1 ∙ ap Ok (sym s.2)),
    )

pub loop-left-preserved : goal.loop-left-preserved
loop-left-preserved t c =
    let e = split c.in-Some.ensures.cases.0 c.from-entry.ensures in (
      omega (arith, c.loop-left.invariant.0, c.in-Some.ensures.cases.1, c.in_ok-behind.ensures.shorter),
      next c.loop-left-test.true (omega (arith, c.if-room-eq0.false)) (sym c.if-not-is_right.false ∙ c.is_right.ensures) (seen e c.loop-left.invariant.1)
          (c.in_ok-behind.ensures.left ∙ no_more c.args.self.now.wanted c.args.self.now.end (c.loop-left.room - 1) c.in_ok-behind.more _ (entries_of c.in_ok-behind.behind.now) (omega arith)),
    )

pub returns-clause-answer : goal.returns-clause-answer
returns-clause-answer t c = given_ok _ _ _ (done (omega (arith, c.loop-left-test.false)) c.loop-left.invariant.1) refl

pub returns-clause-shorter : goal.returns-clause-shorter
returns-clause-shorter t c = c.loop-left.invariant.0
