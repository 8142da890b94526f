use Rattle.std.proofs.Common.{arith}
use Rattle.records.specs.Views.{tree_of}
use Rattle.records.proofs.Views.{count_is}
use Rattle.stored.specs.Words.{below}
use Rattle.transfer.proofs.Storing.{turn, nothing_yet, all_there}
use Rattle.transfer.proofs.store.Goals as goal

pub loop-i-init : goal.loop-i-init
loop-i-init c = (omega (arith, c.count-count.ensures), nothing_yet c.args.view c.count-count.result c.args.words.now c.count-count.ensures)

pub bounds-view-i : goal.bounds-view-i
bounds-view-i c = omega (arith, count_is c.args.view, c.loop-i.invariant.0, c.loop-i-test.true)

pub past-end-requires : goal.past-end-requires
past-end-requires c =
    let b = turn c.args.view c.loop-i.i _ _ c.loop-i-test.true c.loop-i.invariant.0 c.from-e.ensures c.loop-i.invariant.1 in
    (below b.tree, b.siblings)

pub overflow_sub-end : goal.overflow_sub-end
overflow_sub-end c =
    let b = turn c.args.view c.loop-i.i _ _ c.loop-i-test.true c.loop-i.invariant.0 c.from-e.ensures c.loop-i.invariant.1 in
    omega (arith, c.past-end.ensures _ b.siblings)

pub overflow_cast-end : goal.overflow_cast-end
overflow_cast-end c =
    let b = turn c.args.view c.loop-i.i _ _ c.loop-i-test.true c.loop-i.invariant.0 c.from-e.ensures c.loop-i.invariant.1 in
    omega (arith, c.past-end.ensures _ b.siblings, b.few)

pub loop-i-preserved : goal.loop-i-preserved
loop-i-preserved c =
    let b = turn c.args.view c.loop-i.i _ _ c.loop-i-test.true c.loop-i.invariant.0 c.from-e.ensures c.loop-i.invariant.1 in
    (omega (arith, c.loop-i.invariant.0), b.again _ _ (c.past-end.ensures _ b.siblings) c.put_node.ensures)

pub returns : goal.returns
returns c = all_there (tree_of c.args.view) c.loop-i.i _ _ c.loop-i.invariant.1 c.loop-i-test.false
