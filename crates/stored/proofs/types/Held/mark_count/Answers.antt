use Rattle.std.proofs.Common.{[], length, inl, ap, ◌∙◌, arith, rules, tests}
use Rattle.std.proofs.lemmas.Iterator.Consumers.{YieldsList-at, YieldsList-from_first, YieldsList-from_filter, count_from_yields_List}
use Rattle.model.specs.Trees.{is_mark}
use Rattle.stored.specs.Nodes.{tree_held, every, named, nodes_left}
use Rattle.stored.proofs.Once.{open_whole}
use Rattle.stored.proofs.Own.{marks_every, length_every}
use Rattle.stored.proofs.types.Held.mark_count.Goals as goal

pub count-requires-clause-fits : goal.count-requires-clause-fits
count-requires-clause-fits c =
    let t = tree_held c.args.self in
    let l = length_every 0 t [] in
    inl (omega (arith, (open_whole c.args.self.ok).few, ap length c.nodes.ensures, ap (λ s. length (nodes_left s)) c.filter.ensures.source))

pub returns : goal.returns
returns c =
    let t = tree_held c.args.self in
    count_from_yields_List c.filter.result _ c.count.ensures.ran (YieldsList-from_filter _ (λ e. is_mark e.1) (YieldsList-at c.filter.ensures.source (YieldsList-from_first named nodes_left (every 0 t []) c.nodes.ensures)) c.filter.ensures.closure (λ x r q k. search (rules, tests)))
    ∙ marks_every 0 t []
    ∙ omega arith
