use Rattle.std.proofs.Common.{◌≡◌, ◌<◌, false, length, [], ◌∷◌, inl, subst, sym, ap, ◌∙◌, arith}
use Rattle.std.specs.Iterator.Adapters.{enumerate_source, enumerate_count}
use Rattle.stored.specs.Nodes.{tree_of, named, siblings_left}
use Rattle.stored.proofs.Once.{open_owned}
use Rattle.stored.proofs.Own.{children_few}
use Rattle.text.specs.Output.{Laid}
use Rattle.text.proofs.Texts.{going_start, going_more, going_end, comma, no_comma, braced, below_root, at_depth}
use Rattle.text.proofs.output.Output.+put_tree.Goals as goal
use Rattle.text.specs.Text.{bare}
use Rattle.text.proofs.output.Output.+put_tree.Goals.{then-i-gt0, else-i-gt0, else-depth-gt0-via-then-depth-gt0+else-is_bare, else-depth-gt0-via-else-depth-gt0}

pub loop-i-init : goal.loop-i-init
loop-i-init t c =
    let q = c.into_iter-i-iterator.ensures.into_iter_gives in
    let e = c.enumerate-i-items.ensures in
    going_start c.put-2.ensures (ap enumerate_count q ∙ e.count)
    (ap (λ s. siblings_left (enumerate_source s)) q ∙ ap siblings_left e.source ∙ c.children.ensures)

pub loop-i-init-derived : goal.loop-i-init-derived
loop-i-init-derived t c =
    let q = c.into_iter-i-iterator.ensures.into_iter_gives in
    let e = c.enumerate-i-items.ensures in
    let l = ap (λ s. length (siblings_left (enumerate_source s))) q ∙ ap (λ s. length (siblings_left s)) e.source ∙ ap length c.children.ensures in
    ((tt, tt, inl (omega (arith, ap enumerate_count q ∙ e.count, l, children_few (open_owned c.args.tree.ok)))), tt)

pub loop-i-preserved : goal.loop-i-preserved
loop-i-preserved t c =
    let st = c.in-Some.ensures.steps in
    going_more (named c.in-Some.child) c.loop-i.invariant st.0 st.1 st.2 c.name.ensures (elim c.if-i-gt0.branch [
      | then-i-gt0 w ↦ comma (omega (arith, w.if-i-gt0.true)) (subst (Laid c.loop-i.self (44 ∷ [])) (sym w.self-is) w.put-then-i-gt0.ensures)
      | else-i-gt0 w ↦ no_comma (omega (arith, w.if-i-gt0.false)) c.loop-i.invariant.laid w.self-is
    ])
    c.put_number.ensures (below_root _ _ c.put_tree.ensures)

pub returns : goal.returns
returns t c =
    let tree = tree_of c.args.tree in
    let own = open_owned c.args.tree.ok in
    let not_bare : 0 < c.args.depth → bare tree ≡ false =
    λ p. elim c.else-depth-gt0.branch [
      | else-depth-gt0-via-then-depth-gt0+else-is_bare w ↦ sym w.is_bare.ensures ∙ w.if-is_bare.false
      | else-depth-gt0-via-else-depth-gt0 w ↦ absurd (omega (arith, w.if-depth-gt0.false))
    ] in
    at_depth c.args.depth tree not_bare c.put_colon.ensures
    (braced tree own.is_present (sym c.is_mark.ensures ∙ c.if-is_mark.false) c.put-2.ensures
    (going_end c.loop-i.invariant c.in-None.ensures.steps.0.0) c.put-3.ensures)
