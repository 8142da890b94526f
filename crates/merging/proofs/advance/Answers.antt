use Rattle.std.proofs.Common.{refl, arith}
use Rattle.area.proofs.Laws.{wider}
use Rattle.merging.proofs.Turns.{standing, settled_turn, down_turn}
use Rattle.merging.proofs.Calls.{chosen_down, settling, opening, settled_less, down_less}
use Rattle.merging.proofs.advance.Goals as goal

pub look-here-requires : goal.look-here-requires
look-here-requires g c =
    let x = c.requires.given.1.2 in
    let s = standing x in
    (_, x.rests.0.lies, omega (arith, s.field_in, s.bench_in, c.requires.more))

pub choose-requires : goal.choose-requires
choose-requires g c =
    let x = c.requires.given.1.2 in
    let k = c.look-here.ensures _ x.rests.0.lies x.rests.0.ascend in
    (_, λ t. (k.seen t).here)

pub descend-requires : goal.descend-requires
descend-requires g c =
    let x = c.requires.given.1.2 in
    let k = c.look-here.ensures _ x.rests.0.lies x.rests.0.ascend in
    let e = chosen_down x _ _ (c.choose.ensures _ (λ t. (k.seen t).here)) c.in-Down.is in
    (_, opening x c.look-here.result k e)

pub past_all-requires : goal.past_all-requires
past_all-requires g c =
    let x = c.requires.given.1.2 in
    let k = c.look-here.ensures _ x.rests.0.lies x.rests.0.ascend in
    (_, λ t. (k.seen t).here)

pub settle-requires : goal.settle-requires
settle-requires g c =
    let x = c.requires.given.1.2 in
    let k = c.look-here.ensures _ x.rests.0.lies x.rests.0.ascend in
    let e = c.choose.ensures _ (λ t. (k.seen t).here) in
    (_, (λ t. (k.seen t).here), settling x c.look-here.result k c.choose.result e c.in_default.not-Down)

pub returns-in-Down : goal.returns-in-Down
returns-in-Down g c =
    let h = c.look-here.result in
    let d = c.descend.ensures in
    record {
      goes = λ target b.
          let x = b.2 in
          let k = c.look-here.ensures _ x.rests.0.lies x.rests.0.ascend in
          let e = chosen_down x _ _ (c.choose.ensures _ (λ t. (k.seen t).here)) c.in-Down.is in
          down_turn x h k e c.descend.new.area _ c.descend.result c.class_under-class.ensures (d.opens _ (opening x h k e)) d.only;
      less =
          let x = c.requires.given.1.2 in
          let k = c.look-here.ensures _ x.rests.0.lies x.rests.0.ascend in
          let e = chosen_down x _ _ (c.choose.ensures _ (λ t. (k.seen t).here)) c.in-Down.is in
          let o = d.opens _ (opening x h k e) in
          down_less x h k e c.descend.new.area c.descend.result d.only.same_limit o.top o.at;
      only = wider d.only refl;
    }

pub returns-in_default : goal.returns-in_default
returns-in_default g c =
    let h = c.look-here.result in
    let d = c.settle.ensures in
    record {
      goes = λ target b.
          let x = b.2 in
          let k = c.look-here.ensures _ x.rests.0.lies x.rests.0.ascend in
          let e = c.choose.ensures _ (λ t. (k.seen t).here) in
          settled_turn x h k c.choose.result e c.in_default.not-Down c.settle.new.area c.past_all.result c.settle.result
          (c.past_all.ensures _ (λ t. (k.seen t).here)) d.only (d.grows _ (λ t. (k.seen t).here));
      less =
          let x = c.requires.given.1.2 in
          let k = c.look-here.ensures _ x.rests.0.lies x.rests.0.ascend in
          settled_less x h k c.settle.new.area c.past_all.result c.settle.result d.only.same_limit
          (c.past_all.ensures _ (λ t. (k.seen t).here));
      only = wider d.only refl;
    }
