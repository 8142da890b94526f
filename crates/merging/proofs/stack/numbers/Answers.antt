use Rattle.std.proofs.Common.{◌∙◌, arith}
use Rattle.stored.proofs.Places.{three}
use Rattle.area.specs.Views.{view}
use Rattle.area.specs.declared.regions.Region.TheVariants.{Stack}
use Rattle.area.proofs.Laws.{limit_small}
use Rattle.merging.proofs.stack.numbers.Goals as goal

pub overflow_add-at : goal.overflow_add-at
overflow_add-at c = omega (arith, limit_small c.args.area.now, c.requires)

pub overflow_add-at-2 : goal.overflow_add-at-2
overflow_add-at-2 c = omega (arith, limit_small c.args.area.now, c.requires)

pub returns : goal.returns
returns c s rest e =
    let w = three (view c.args.area.now Stack) c.args.at s.archive s.field s.bench rest e in
    λ i. record {
      archive = (c.get.ensures ∙ w.first) i;
      field = (c.get-2.ensures ∙ w.second) i;
      bench = (c.get-3.ensures ∙ w.third) i;
    }
