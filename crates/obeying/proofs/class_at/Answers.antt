use Rattle.std.proofs.Common.{◌≡◌, ℕ, ◌+◌, ◌<◌, List, length, get_or, drop, Option, sym, ap, ◌∙◌, arith}
use Rattle.std.proofs.lemmas.List.{at_drop_more, at_drop_all}
use Rattle.model.specs.Meaning.{Meaning, class_under, class_at}
use Rattle.obeying.proofs.class_at.Goals as goal

one_more : (m : Meaning) (c d : Option ℕ) (path : List ℕ) (i : ℕ) → i < length path → d ≡ class_under m c (get_or path i 0)
    → class_at m d (drop (i + 1) path) ≡ class_at m c (drop i path)
one_more m c d path i l e = ap (λ k. class_at m k (drop (i + 1) path)) e ∙ sym (at_drop_more (class_at m c) path i 0 l)

pub loop-name-preserved : goal.loop-name-preserved
loop-name-preserved g c =
    let m = g.R.Rulebook.meaning c.args.rules.now in
    one_more m _ _ c.args.path.now c.loop-name.name-index (omega arith) c.class_under-class.ensures ∙ c.loop-name.invariant

pub returns : goal.returns
returns g c =
    let m = g.R.Rulebook.meaning c.args.rules.now in
    sym (at_drop_all (class_at m c.loop-name.class) c.args.path.now c.loop-name.name-index (omega arith)) ∙ c.loop-name.invariant
