use Rattle.std.proofs.Common.{◌+◌, ap, ◌∙◌, arith}
use Rattle.model.specs.Trees.{nodes}
use Rattle.stored.proofs.Places.{node_at}
use Rattle.transfer.proofs.Storing.{set_out, on_way, one_less, arrived}
use Rattle.transfer.proofs.past.Goals as goal

pub loop-init : goal.loop-init
loop-init c f s = set_out _ s (omega arith)

pub at-requires : goal.at-requires
at-requires c = let a = on_way (c.loop.invariant _ c.requires.1) (omega arith) in (_, a.here)

pub overflow_add-pos : goal.overflow_add-pos
overflow_add-pos c =
    let a = on_way (c.loop.invariant _ c.requires.1) (omega arith) in
    omega (arith, (node_at a.here).whole, c.node_count-pos.ensures ∙ ap nodes (c.at.ensures.tree _ a.here))

pub loop-preserved : goal.loop-preserved
loop-preserved c f s =
    let a = on_way (c.loop.invariant f s) (omega arith) in
    one_less _ a _ (omega arith) (ap (λ k. c.loop.pos + k) (c.node_count-pos.ensures ∙ ap nodes (c.at.ensures.tree _ a.here)))

pub returns : goal.returns
returns c f s = arrived (c.loop.invariant f s) (omega arith)
