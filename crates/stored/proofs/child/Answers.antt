use Rattle.std.proofs.Common.{◌+◌, ap, ◌∙◌, arith}
use Rattle.model.specs.Trees.{nodes}
use Rattle.stored.specs.Words.{below}
use Rattle.stored.proofs.Places.{node_at}
use Rattle.stored.proofs.Lookup.{between_children, ascends_below}
use Rattle.stored.proofs.Placed.{placed}
use Rattle.stored.proofs.child.Goals as goal

pub overflow_add-end : goal.overflow_add-end
overflow_add-end c =
    let h = c.requires.1 in
    let w = node_at h in
    omega (arith, w.whole, c.node_count.ensures ∙ ap nodes (c.at.ensures.tree _ h))

pub seek-requires : goal.seek-requires
seek-requires c =
    let h = c.requires.1 in
    (_, between_children h (ap (λ k. c.args.at + k) (c.node_count.ensures ∙ ap nodes (c.at.ensures.tree _ h))))

pub returns : goal.returns
returns c s h =
    let b = between_children h (ap (λ k. c.args.at + k) (c.node_count.ensures ∙ ap nodes (c.at.ensures.tree s h))) in
    c.ok.ensures.value ∙ placed (below s.tree) _ _ (ascends_below s.tree s.well_formed) _ (c.seek.ensures.stops _ b) (c.seek.ensures.tells _ b)
