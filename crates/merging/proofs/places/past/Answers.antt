use Rattle.std.proofs.Common.{ap, ◌∙◌, arith}
use Rattle.model.specs.Trees.{nodes}
use Rattle.stored.specs.Lookup.{at_of}
use Rattle.stored.proofs.Places.{node_at}
use Rattle.area.specs.declared.regions.Region.TheVariants.{Tree as Old}
use Rattle.area.proofs.Laws.{view_length, limit_small}
use Rattle.merging.proofs.Finding.{carried, stood_at, nothing_at}
use Rattle.merging.proofs.places.past.Goals as goal

pub at-requires : goal.at-requires
at-requires c = (_, carried c.part.ensures.words (stood_at c.in-Ok.is c.requires.2).here)

pub overflow_add-result : goal.overflow_add-result
overflow_add-result c =
    let a = c.args.area.now in
    let h = (stood_at c.in-Ok.is c.requires.2).here in
    let n = c.node_count.ensures ∙ ap nodes (c.at.ensures.tree _ (carried c.part.ensures.words h)) in
    omega (arith, (node_at h).whole, view_length a (Old c.args.t), limit_small a)

pub returns-in-Ok : goal.returns-in-Ok
returns-in-Ok c k a h =
    let n = c.node_count.ensures ∙ ap nodes (c.at.ensures.tree _ (carried c.part.ensures.words (stood_at c.in-Ok.is h).here)) in
    omega (arith, n, ap at_of c.in-Ok.is)

pub returns-in-Err : goal.returns-in-Err
returns-in-Err c k a h = omega (arith, ap nodes (nothing_at c.in-Err.is h), ap at_of c.in-Err.is)
