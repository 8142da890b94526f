use Rattle.std.proofs.Common.{ap, arith}
use Rattle.model.specs.Trees.{nodes}
use Rattle.stored.proofs.Lookup.{between_children}
use Rattle.editing.proofs.Carried.{carried_between, near}
use Rattle.editing.proofs.Parting.{met, unmet}
use Rattle.editing.proofs.reading.split.Goals as goal

pub overflow_add-at : goal.overflow_add-at
overflow_add-at c = omega (arith, near _ _ c.requires.1)

pub seek-requires : goal.seek-requires
seek-requires c =
    (_, carried_between c.part.ensures.words (between_children c.requires.1 (c.next-end.ensures _ c.requires.1)))

pub next-requires : goal.next-requires
next-requires c =
    let b = between_children c.requires.1 (c.next-end.ensures _ c.requires.1) in
    let d = carried_between c.part.ensures.words b in
    let u = met c.args.name _ b (c.in-Ok.ensures.stops _ d) (c.in-Ok.ensures.tells _ d) in
    (_, u.here)

pub returns-in-Ok : goal.returns-in-Ok
returns-in-Ok c s h =
    let b = between_children h (c.next-end.ensures s h) in
    let d = carried_between c.part.ensures.words b in
    let u = met c.args.name _ b (c.in-Ok.ensures.stops _ d) (c.in-Ok.ensures.tells _ d) in
    record {
      up_to = c.in-Ok.ensures.stops _ d;
      from_on = c.next.ensures _ u.here;
      end = c.next-end.ensures s h;
    }

pub returns-in-Err : goal.returns-in-Err
returns-in-Err c s h =
    let d = carried_between c.part.ensures.words (between_children h (c.next-end.ensures s h)) in
    let u = unmet s c.args.name (c.in-Err.ensures.tells _ d) in
    record {
      up_to = c.in-Err.ensures.stops _ d;
      from_on = omega (arith, c.in-Err.ensures.stops _ d, ap nodes u);
      end = c.next-end.ensures s h;
    }
