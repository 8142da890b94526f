use Rattle.std.proofs.Common.{sym, ◌∙◌, arith}
use Rattle.area.specs.Views.{view}
use Rattle.area.specs.declared.regions.Region.TheVariants.{Stack}
use Rattle.area.proofs.Laws.{limit_small}
use Rattle.merging.proofs.Stacking.{class_none, class_some, read_at, read_first}
use Rattle.merging.proofs.stack.class.Goals as goal

pub overflow_add-at : goal.overflow_add-at
overflow_add-at c = omega (arith, limit_small c.args.area.now, c.requires)

pub returns-then-get-eq0 : goal.returns-then-get-eq0
returns-then-get-eq0 c k rest e =
    class_none k (sym (c.get.ensures ∙ read_first (view c.args.area.now Stack) _ c.args.at e) ∙ c.if-get-eq0.true)

pub returns-else-get-eq0 : goal.returns-else-get-eq0
returns-else-get-eq0 c k rest e =
    let ws = view c.args.area.now Stack in
    class_some k _ (λ z. c.if-get-eq0.false (c.get.ensures ∙ read_first ws _ c.args.at e ∙ z))
    (c.get-else-get-eq0.ensures ∙ read_at ws _ c.args.at 1 e)
