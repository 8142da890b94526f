use Rattle.std.proofs.Common.{◌+◌, refl, arith}
use Rattle.area.specs.Views.{limit}
use Rattle.area.proofs.Parts.{region_fits, copied}
use Rattle.area.proofs.types.Area.copy.Goals as goal

pub overflow_add-source : goal.overflow_add-source
unfolding limit
overflow_add-source c = omega (arith, region_fits c.args.self.now c.args.from, region_fits c.args.self.now c.args.to)

pub overflow_add-target : goal.overflow_add-target
unfolding limit
overflow_add-target c = omega (arith, region_fits c.args.self.now c.args.from, region_fits c.args.self.now c.args.to)

pub overflow_add-source-2 : goal.overflow_add-source-2
unfolding limit
overflow_add-source-2 c = omega (arith, region_fits c.args.self.now c.args.from, region_fits c.args.self.now c.args.to)

pub copy_within-requires : goal.copy_within-requires
unfolding limit
copy_within-requires c =
    let s = region_fits c.args.self.now c.args.from in
    let t = region_fits c.args.self.now c.args.to in
    record { start_le_end = omega arith; in_bounds = omega arith; dest_in_bounds = omega arith; not_exhausted = tt }

pub returns : goal.returns
returns c =
    let a = c.args.self.now in
    let s = c.place.result + c.args.i in
    let t = c.place-2.result + c.args.j in
    let w = copied a _ c.args.from c.args.i c.args.to c.args.j c.args.n s t _ c.requires.source c.requires.target refl (omega arith) (omega arith) (omega arith) c.copy_within.ensures.items in
    record { here = w.here; only = w.only }
