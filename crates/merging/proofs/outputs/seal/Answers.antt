use Rattle.std.proofs.Common.{refl, arith}
use Rattle.area.specs.declared.regions.Region.TheVariants.{New}
use Rattle.area.proofs.Laws.{view_length, limit_small}
use Rattle.merging.proofs.Writing.{opened_long, closed, grown_in}
use Rattle.merging.proofs.outputs.seal.Goals as goal

pub overflow_mul-at : goal.overflow_mul-at
overflow_mul-at c =
    let a = c.args.area.now in
    omega (arith, opened_long c.requires.2, c.requires.2.room, view_length a (New c.args.t), limit_small a)

pub overflow_add-at : goal.overflow_add-at
overflow_add-at c =
    let a = c.args.area.now in
    omega (arith, opened_long c.requires.2, c.requires.2.room, view_length a (New c.args.t), limit_small a)

pub overflow_sub-to : goal.overflow_sub-to
overflow_sub-to c =
    let a = c.args.area.now in
    omega (arith, opened_long c.requires.2, c.requires.2.room, view_length a (New c.args.t), limit_small a)

pub overflow_cast-to : goal.overflow_cast-to
overflow_cast-to c =
    let a = c.args.area.now in
    omega (arith, opened_long c.requires.2, c.requires.2.room, view_length a (New c.args.t), limit_small a)

pub set-requires : goal.set-requires
set-requires c =
    let a = c.args.area.now in
    omega (arith, opened_long c.requires.2, c.requires.2.room, view_length a (New c.args.t), limit_small a)

pub returns : goal.returns
returns c =
    record { grows = λ k done w. grown_in refl c.set.ensures.here (closed w); only = c.set.ensures.only }
