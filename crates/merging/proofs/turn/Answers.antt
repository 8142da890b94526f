use Rattle.std.proofs.Common.{refl, arith}
use Rattle.area.proofs.Laws.{wider, limit_small}
use Rattle.merging.proofs.Turns.{standing, closing, shuts}
use Rattle.merging.proofs.Calls.{topped, shut_less}
use Rattle.merging.proofs.turn.Goals as goal

pub top-frame-requires : goal.top-frame-requires
top-frame-requires g c = (standing c.requires.1.2).top_in

pub advance-requires : goal.advance-requires
advance-requires g c =
    let x = topped c.requires.1 c.top-frame.ensures in
    let s = standing x.2 in
    record { given = (_, x); more = omega (arith, s.field_in, s.bench_in, c.if-walk-frame-2.either) }

pub overflow_add-result : goal.overflow_add-result
overflow_add-result g c = omega (arith, (standing c.requires.1.2).top_in, limit_small c.args.area.now)

pub close-requires : goal.close-requires
close-requires g c = (_, closing (topped c.requires.1 c.top-frame.ensures).2)

pub returns-then-walk-frame-2 : goal.returns-then-walk-frame-2
returns-then-walk-frame-2 g c =
    let d = c.advance.ensures in
    record { goes = λ target b. d.goes target (topped b c.top-frame.ensures); less = d.less; only = d.only }

pub returns-else-walk-frame-2 : goal.returns-else-walk-frame-2
returns-else-walk-frame-2 g c =
    let a = c.close.new.area in
    let d = c.close.ensures in
    record {
      goes = λ target b.
          let x = (topped b c.top-frame.ensures).2 in
          let s = standing x in
          shuts x a c.close.result (omega (arith, s.field_in, c.if-walk-frame-2.false)) (omega (arith, s.bench_in, c.if-walk-frame-2.false))
          d.only (d.grows _ (closing x));
      less =
          let x = (topped c.requires.1 c.top-frame.ensures).2 in
          let s = standing x in
          shut_less x a c.close.result d.only.same_limit (omega (arith, s.field_in, c.if-walk-frame-2.false))
          (omega (arith, s.bench_in, c.if-walk-frame-2.false));
      only = wider d.only refl;
    }
