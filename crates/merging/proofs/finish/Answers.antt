use Rattle.std.proofs.Common.{refl, arith}
use Rattle.area.proofs.Laws.{none, also}
use Rattle.merging.specs.Going.{busy}
use Rattle.merging.proofs.Calls.{still_busy, all_done}
use Rattle.merging.proofs.finish.Goals as goal

pub loop-walk-init : goal.loop-walk-init
loop-walk-init g c = ((λ target b. busy b), none _ _)

pub turn-walk-requires : goal.turn-walk-requires
turn-walk-requires g c =
    let i = c.loop-walk.invariant in
    (_, still_busy (i.0 _ c.requires.1) (omega (arith, i.1.same_limit, c.loop-walk-test.true, c.size-full.ensures)))

pub loop-walk-preserved : goal.loop-walk-preserved
loop-walk-preserved g c =
    let i = c.loop-walk.invariant in (
      (λ target b.
          c.turn-walk.ensures.goes target
          (still_busy (i.0 target b) (omega (arith, i.1.same_limit, c.loop-walk-test.true, c.size-full.ensures)))),
      also i.1 c.turn-walk.ensures.only refl,
    )

pub returns : goal.returns
returns g c =
    let i = c.loop-walk.invariant in
    record {
      merged = λ target b. all_done (i.0 target b) (omega (arith, i.1.same_limit, c.loop-walk-test.false, c.size-full.ensures));
      only = i.1;
    }
