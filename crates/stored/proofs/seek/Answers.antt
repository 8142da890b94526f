use Rattle.std.proofs.Common.{◌+◌, sym, ap, ◌∙◌, arith}
use Rattle.std.proofs.lemmas.Bool.{eq-eqb, ne_eqb}
use Rattle.model.specs.Trees.{nodes}
use Rattle.stored.proofs.Rows.{ahead, step, done}
use Rattle.stored.proofs.Seeking.{nearer, there, past_all}
use Rattle.stored.proofs.seek.Goals as goal

pub at-tree-requires : goal.at-tree-requires
at-tree-requires c = let a = ahead (c.loop-at.invariant _ c.requires.1) c.loop-at-test.true in (_, a.here)

pub returns-then-here-wanted-2 : goal.returns-then-here-wanted-2
returns-then-here-wanted-2 c =
    record {
      stops = λ f b.
          let a = ahead (c.loop-at.invariant f b) c.loop-at-test.true in
          (there c.name-here.result a.holds (c.name-here.ensures ∙ c.at-tree.ensures.name _ a.here) (omega arith)).0;
      tells = λ f b.
          let a = ahead (c.loop-at.invariant f b) c.loop-at-test.true in
          sym (eq-eqb _ _ c.if-here-wanted-2.true) ∙ (there c.name-here.result a.holds (c.name-here.ensures ∙ c.at-tree.ensures.name _ a.here) (omega arith)).1;
    }

pub returns-else-here-wanted-2 : goal.returns-else-here-wanted-2
returns-else-here-wanted-2 c =
    record {
      stops = λ f b.
          let a = ahead (c.loop-at.invariant f b) c.loop-at-test.true in
          (there c.name-here.result a.holds (c.name-here.ensures ∙ c.at-tree.ensures.name _ a.here) (omega arith)).0;
      tells = λ f b.
          let a = ahead (c.loop-at.invariant f b) c.loop-at-test.true in
          sym (ne_eqb _ _ c.if-here-wanted-2.false) ∙ (there c.name-here.result a.holds (c.name-here.ensures ∙ c.at-tree.ensures.name _ a.here) (omega arith)).1;
    }

pub overflow_add-at : goal.overflow_add-at
overflow_add-at c =
    let a = ahead (c.loop-at.invariant _ c.requires.1) c.loop-at-test.true in
    omega (arith, c.node_count-at.ensures ∙ ap nodes (c.at-tree.ensures.tree _ a.here), a.ends)

pub loop-at-smaller : goal.loop-at-smaller
loop-at-smaller c =
    let a = ahead (c.loop-at.invariant _ c.requires.1) c.loop-at-test.true in
    omega (arith, c.node_count-at.ensures ∙ ap nodes (c.at-tree.ensures.tree _ a.here), a.one, a.ends)

pub loop-at-preserved : goal.loop-at-preserved
loop-at-preserved c f b =
    let a = ahead (c.loop-at.invariant f b) c.loop-at-test.true in
    let e = ap (λ k. c.loop-at.at + k) (c.node_count-at.ensures ∙ ap nodes (c.at-tree.ensures.tree _ a.here)) in
    step a _ e (nearer _ a.holds (omega (arith, c.if-here-wanted.false, c.name-here.ensures ∙ c.at-tree.ensures.name _ a.here)) e)

pub returns : goal.returns
returns c =
    record {
      stops = λ f b. (past_all (done (c.loop-at.invariant f b) c.loop-at-test.false)).0;
      tells = λ f b. (past_all (done (c.loop-at.invariant f b) c.loop-at-test.false)).1;
    }
