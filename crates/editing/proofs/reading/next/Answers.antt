use Rattle.std.proofs.Common.{◌+◌, ap, ◌∙◌, arith}
use Rattle.model.specs.Trees.{nodes}
use Rattle.editing.proofs.Carried.{carried, carry, near}
use Rattle.editing.proofs.reading.next.Goals as goal

pub at-requires : goal.at-requires
at-requires c = carry c.part.ensures.words c.requires

pub overflow_add-result : goal.overflow_add-result
overflow_add-result c =
    let h = c.requires.1 in
    omega (arith, near c.args.area.now c.args.of h, c.node_count.ensures ∙ ap nodes (c.at.ensures.tree _ (carried c.part.ensures.words h)))

pub returns : goal.returns
returns c s h = ap (λ k. c.args.at + k) (c.node_count.ensures ∙ ap nodes (c.at.ensures.tree s (carried c.part.ensures.words h)))
