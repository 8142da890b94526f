use Rattle.std.proofs.Common.{refl, arith}
use Rattle.area.specs.declared.regions.Region.TheVariants.{Tree}
use Rattle.editing.proofs.Carried.{carried, near}
use Rattle.editing.proofs.obedience.open.Goals as goal

pub next-end-requires : goal.next-end-requires
next-end-requires g c = (_, carried (c.gather-many.ensures.only.same (Tree c.args.table) refl) c.requires.stands.1)

pub overflow_cast-end : goal.overflow_cast-end
overflow_cast-end g c =
    let h = carried (c.gather-many.ensures.only.same (Tree c.args.table) refl) c.requires.stands.1 in
    omega (arith, near c.gather-many.new.area (Tree c.args.table) h, c.next-end.ensures _ h)
