use Rattle.std.proofs.Common.{◌-◌, ◌*◌, length, Err, sym, refl, ap, ◌∙◌, arith}
use Rattle.refusals.specs.declared.Reason.TheVariants.{Record, Count, Depth}
use Rattle.records.specs.Bytes.{entries_of}
use Rattle.records.specs.Reading.{no, here}
use Rattle.records.proofs.Siblings.{place, split, none_left, seen, ran_out, too_deep, wrong, next, no_more}
use Rattle.records.proofs.Reading.leaves.Goals as goal

pub returns-in_default-clause-refused : goal.returns-in_default-clause-refused
returns-in_default-clause-refused c =
    ran_out c.loop-left-test.true (none_left c.loop-left.rest.now c.in_default.ensures.cases) c.loop-left.invariant.1
    ∙ ap Err (sym (place c.args.self.now.wanted Count c.args.self.now.end c.loop-left.rest.now) ∙ sym c.refuse.ensures)

pub refuse-requires-then-room-eq0 : goal.refuse-requires-then-room-eq0
refuse-requires-then-room-eq0 c = omega (arith, c.loop-left.invariant.0, c.requires)

pub returns-then-room-eq0-clause-refused : goal.returns-then-room-eq0-clause-refused
returns-then-room-eq0-clause-refused c =
    let e = split c.in-Some.ensures.cases.0 refl in
    too_deep c.loop-left-test.true c.if-room-eq0.true (seen e c.loop-left.invariant.1)
    ∙ ap (λ es. Err (no c.args.self.now.wanted Depth (here c.args.self.now.end es))) (sym e)
    ∙ ap Err (sym (place c.args.self.now.wanted Depth c.args.self.now.end c.loop-left.rest.now) ∙ sym c.refuse-then-room-eq0.ensures)

pub returns-then-entry-gt0-clause-left : goal.returns-then-entry-gt0-clause-left
returns-then-entry-gt0-clause-left c = c.loop-left.invariant.1.is

pub returns-then-entry-gt0-clause-shorter : goal.returns-then-entry-gt0-clause-shorter
returns-then-entry-gt0-clause-shorter c = c.loop-left.invariant.0

pub refuse-requires-then-not-is_right : goal.refuse-requires-then-not-is_right
refuse-requires-then-not-is_right c = omega (arith, c.loop-left.invariant.0, c.requires)

pub returns-then-not-is_right-clause-refused : goal.returns-then-not-is_right-clause-refused
returns-then-not-is_right-clause-refused c =
    let e = split c.in-Some.ensures.cases.0 c.from-entry.ensures in
    wrong c.loop-left-test.true (omega (arith, c.if-room-eq0.false)) (sym c.if-not-is_right.true ∙ c.is_right.ensures) (seen e c.loop-left.invariant.1)
    ∙ ap (λ es. Err (no c.args.self.now.wanted Record (here c.args.self.now.end es))) (sym e)
    ∙ ap Err (sym (place c.args.self.now.wanted Record c.args.self.now.end c.loop-left.rest.now) ∙ sym c.refuse-then-not-is_right.ensures)

pub loop-left-preserved : goal.loop-left-preserved
loop-left-preserved c =
    let e = split c.in-Some.ensures.cases.0 c.from-entry.ensures in (
      omega (arith, c.loop-left.invariant.0, c.in-Some.ensures.cases.1),
      next c.loop-left-test.true (omega (arith, c.if-room-eq0.false)) (sym c.if-not-is_right.false ∙ c.is_right.ensures) (seen e c.loop-left.invariant.1)
          (no_more c.args.self.now.wanted c.args.self.now.end (c.args.room - 1) c.from-entry.result.children _ (entries_of c.in-Some.below.now) c.if-entry-gt0.false),
    )

pub returns-clause-left : goal.returns-clause-left
returns-clause-left c = c.loop-left.invariant.1.is

pub returns-clause-shorter : goal.returns-clause-shorter
returns-clause-shorter c = c.loop-left.invariant.0
