use Rattle.std.proofs.Common.{◌+◌, refl, arith}
use Rattle.area.specs.Views.{limit}
use Rattle.area.proofs.Parts.{region_fits, put}
use Rattle.area.proofs.types.Area.set.Goals as goal

pub overflow_add-at : goal.overflow_add-at
unfolding limit
overflow_add-at c = omega (arith, region_fits c.args.self.now c.args.r)

pub index_mut-requires : goal.index_mut-requires
unfolding limit
index_mut-requires c = omega (arith, region_fits c.args.self.now c.args.r)

pub returns : goal.returns
returns c =
    let w = put c.args.self.now _ c.args.r c.args.i c.args.x (c.place.result + c.args.i) c.requires refl (omega arith) refl in
    record { here = w.here; only = w.only }
