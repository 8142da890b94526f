use Rattle.std.proofs.Common.{[], length, inl, ap, ◌∙◌, arith}
use Rattle.std.specs.Iterator.Adapters.{enumerate_source, enumerate_count}
use Rattle.stored.specs.Nodes.{tree_held, nodes_left, named}
use Rattle.stored.proofs.Once.{open_whole}
use Rattle.stored.proofs.Own.{length_every}
use Rattle.transfer.proofs.Writing.{wrote_room, wrote_more, wrote_all}
use Rattle.transfer.proofs.put_records.Goals as goal

pub loop-i-init-derived : goal.loop-i-init-derived
loop-i-init-derived c =
    let q = c.into_iter-i-iterator.ensures.into_iter_gives in
    let e = c.enumerate-i-items.ensures in
    let l = ap (λ s. length (nodes_left (enumerate_source s))) q ∙ ap (λ s. length (nodes_left s)) e.source ∙ ap length c.nodes.ensures in
    let n = length_every 0 (tree_held c.args.tree) [] in
    ((tt, tt, inl (omega (arith, ap enumerate_count q ∙ e.count, l, (open_whole c.args.tree.ok).few))), tt)

pub put_record-requires : goal.put_record-requires
put_record-requires c =
    let st = c.in-Some.ensures.steps in
    omega (arith, wrote_room c.loop-i.invariant st.0, st.1, length_every 0 (tree_held c.args.tree) [], c.requires)

pub loop-i-preserved : goal.loop-i-preserved
loop-i-preserved c =
    let st = c.in-Some.ensures.steps in
    wrote_more (named c.in-Some.node) _ _ _ _ c.loop-i.invariant st.0 st.1 st.2 c.record_of.ensures c.put_record.ensures

pub returns : goal.returns
returns c = wrote_all (tree_held c.args.tree) c.loop-i.invariant c.in-None.ensures.steps.0.0
