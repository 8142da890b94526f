use Rattle.std.proofs.Common.{[], ◌≡◌, ◌-◌, ap, refl, ◌∙◌, arith, length}
use Rattle.model.specs.Faults.{fault_from}
use Rattle.records.specs.Views.{tree_of}
use Rattle.records.proofs.Views.{count_is}
use Rattle.obeying.proofs.Views.{rooted, few, empty_view}
use Rattle.obeying.proofs.first_unlawful.Goals as goal

pub returns-in_err-record : goal.returns-in_err-record
returns-in_err-record g c = c.from_residual.ensures ∙ empty_view (g.R.Rulebook.meaning c.args.rules.now) c.args.class c.args.view c.in_err-record.ensures.cases

pub returns-then-root-eq0 : goal.returns-then-root-eq0
returns-then-root-eq0 g c = c.leaf.ensures (tree_of c.args.view) _ [] (rooted c.args.view c.in_ok-record.ensures.cases.0 c.from-root.ensures) c.if-root-eq0.true

pub node-requires-clause-tree : goal.node-requires-clause-tree
node-requires-clause-tree g c =
    (c.from-root.result, tree_of c.args.view, [], rooted c.args.view c.in_ok-record.ensures.cases.0 c.from-root.ensures, refl, omega (arith, few c.args.view))

pub node-requires-clause-number : goal.node-requires-clause-number
node-requires-clause-number g c = omega (arith, c.count.ensures, count_is c.args.view, c.in_ok-record.ensures.cases.1)

pub returns : goal.returns
returns g c = c.node.ensures.fault _ (tree_of c.args.view) [] (rooted c.args.view c.in_ok-record.ensures.cases.0 c.from-root.ensures) refl
    ∙ ap (fault_from (g.R.Rulebook.meaning c.args.rules.now) c.args.class (tree_of c.args.view)) (let p : c.count.result - 1 - length c.in_ok-record.rest.now ≡ 0 = omega (arith, c.count.ensures, count_is c.args.view, c.in_ok-record.ensures.cases.1) in p)
