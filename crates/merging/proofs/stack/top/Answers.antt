use Rattle.std.proofs.Common.{◌++◌, ◌∙◌, arith}
use Rattle.area.specs.Views.{view}
use Rattle.area.specs.declared.regions.Region.TheVariants.{Stack}
use Rattle.area.proofs.Laws.{limit_small}
use Rattle.merging.specs.Frames.{frame_words}
use Rattle.merging.proofs.Stacking.{read_at, read_on}
use Rattle.merging.proofs.stack.top.Goals as goal

pub overflow_add-at : goal.overflow_add-at
overflow_add-at c = omega (arith, limit_small c.args.area.now, c.requires)

pub overflow_add-at-2 : goal.overflow_add-at-2
overflow_add-at-2 c = omega (arith, limit_small c.args.area.now, c.requires)

pub overflow_add-at-3 : goal.overflow_add-at-3
overflow_add-at-3 c = omega (arith, limit_small c.args.area.now, c.requires)

pub overflow_add-at-4 : goal.overflow_add-at-4
overflow_add-at-4 c = omega (arith, limit_small c.args.area.now, c.requires)

pub returns : goal.returns
returns c f rest e =
    let ws = view c.args.area.now Stack in
    let at = c.args.at in
    let ys = frame_words f ++ rest in
    λ i. record {
      class = c.class.ensures f.class _ e i;
      ends = c.numbers.ensures f.ends _ (read_on ws ys at 2 e) i;
      field = (c.get.ensures ∙ read_at ws ys at 5 e) i;
      bench = (c.get-2.ensures ∙ read_at ws ys at 6 e) i;
      new = c.numbers-2.ensures f.new _ (read_on ws ys at 7 e) i;
    }
