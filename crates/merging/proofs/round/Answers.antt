use Rattle.std.proofs.Common.{refl}
use Rattle.area.proofs.Laws.{also, wider}
use Rattle.merging.proofs.Roots.{rooted, chosen_root, root_opening, root_busy, root_room, root_merged}
use Rattle.merging.proofs.round.Goals as goal

pub choose-requires : goal.choose-requires
choose-requires g c =
    let p = c.requires.given in
    let r =
    rooted c.whole.result c.whole-2.result c.whole-3.result c.whole.ensures.first c.whole-2.ensures.first c.whole-3.ensures.first c.whole.ensures.here c.whole-2.ensures.here c.whole-3.ensures.here p.3 p.4 in
    (_, r.finds)

pub descend-first-requires : goal.descend-first-requires
descend-first-requires g c =
    let p = c.requires.given in
    let r =
    rooted c.whole.result c.whole-2.result c.whole-3.result c.whole.ensures.first c.whole-2.ensures.first c.whole-3.ensures.first c.whole.ensures.here c.whole-2.ensures.here c.whole-3.ensures.here p.3 p.4 in
    let e = chosen_root r _ (c.choose.ensures _ r.finds) c.in-Down.is in
    (_, root_opening r e c.size.result c.size.ensures)

pub finish-requires : goal.finish-requires
finish-requires g c =
    let p = c.requires.given in
    let r =
    rooted c.whole.result c.whole-2.result c.whole-3.result c.whole.ensures.first c.whole-2.ensures.first c.whole-3.ensures.first c.whole.ensures.here c.whole-2.ensures.here c.whole-3.ensures.here p.3 p.4 in
    let e = chosen_root r _ (c.choose.ensures _ r.finds) c.in-Down.is in
    let d = c.descend-first.ensures in (
      _,
      root_busy r e c.size.result c.size.ensures c.descend-first.new.area c.descend-first.result
          (d.opens _ (root_opening r e c.size.result c.size.ensures)) d.only,
    )

pub settle-requires : goal.settle-requires
settle-requires g c =
    let p = c.requires.given in
    let r =
    rooted c.whole.result c.whole-2.result c.whole-3.result c.whole.ensures.first c.whole-2.ensures.first c.whole-3.ensures.first c.whole.ensures.here c.whole-2.ensures.here c.whole-3.ensures.here p.3 p.4 in
    (_, r.finds, root_room r c.choose.result (c.choose.ensures _ r.finds) c.in_default.not-Down)

pub returns-in-Down : goal.returns-in-Down
returns-in-Down g c =
    let d = c.descend-first.ensures in
    record {
      merged = λ o a b held ready.
          let r =
          rooted c.whole.result c.whole-2.result c.whole-3.result c.whole.ensures.first c.whole-2.ensures.first c.whole-3.ensures.first c.whole.ensures.here c.whole-2.ensures.here c.whole-3.ensures.here held ready in
          let e = chosen_root r _ (c.choose.ensures _ r.finds) c.in-Down.is in
          c.finish.ensures.merged _
          (root_busy r e c.size.result c.size.ensures c.descend-first.new.area c.descend-first.result
          (d.opens _ (root_opening r e c.size.result c.size.ensures)) d.only);
      only = also (wider d.only refl) c.finish.ensures.only refl;
    }

pub returns-in_default : goal.returns-in_default
returns-in_default g c =
    let d = c.settle.ensures in
    record {
      merged = λ o a b held ready.
          let r =
          rooted c.whole.result c.whole-2.result c.whole-3.result c.whole.ensures.first c.whole-2.ensures.first c.whole-3.ensures.first c.whole.ensures.here c.whole-2.ensures.here c.whole-3.ensures.here held ready in
          root_merged r c.choose.result (c.choose.ensures _ r.finds) c.in_default.not-Down c.settle.new.area c.settle.result
          (d.grows _ r.finds);
      only = wider d.only refl;
    }
