use Rattle.std.proofs.Common.{sym, ap, ◌∙◌, arith}
use Rattle.std.proofs.lemmas.List.{take_all}
use Rattle.model.specs.Trees.{at, nodes}
use Rattle.editing.proofs.Carried.{some_present}
use Rattle.editing.proofs.Routes.{none_at, falls_short}
use Rattle.editing.proofs.reaching.nodes_at.Goals as goal

pub returns-then-count-eq0 : goal.returns-then-count-eq0
returns-then-count-eq0 c t h u = sym (none_at t c.args.path.now (omega (arith, h.count, c.if-count-eq0.true)))

pub at-requires : goal.at-requires
at-requires c =
    let s = (c.reach-end.ensures c.requires.0 c.requires.1 c.requires.2).here (some_present c.requires.0 _ c.requires.1.count c.if-count-eq0.false) in
    (s.0, s.1)

pub returns-then-end-path : goal.returns-then-end-path
returns-then-end-path c t h u =
    let r = c.reach-end.ensures t h u in
    sym (ap nodes (falls_short t c.args.path.now u (omega (arith, r.names))))

pub returns-else-end-path : goal.returns-else-end-path
returns-else-end-path c t h u =
    let r = c.reach-end.ensures t h u in
    let s = r.here (some_present t _ h.count c.if-count-eq0.false) in
    c.node_count.ensures
    ∙ ap nodes (c.at.ensures.tree _ s.1)
    ∙ ap nodes (s.2 ∙ ap (at t) (take_all _ c.args.path.now (omega (arith, r.names))))
