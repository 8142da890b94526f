use Rattle.std.proofs.Common.{arith, codes, ap, ◌∙◌}
use Rattle.refusals.specs.Numbers.{layer_number}
use Rattle.text.proofs.Laying.{then, fielded}
use Rattle.text.proofs.Texts.{line_short}
use Rattle.text.proofs.output.Output.put_line.Goals as goal

pub returns : goal.returns
returns c =
    let layer = c.number-2.ensures ∙ ap layer_number c.layer.ensures in
    record {
      laid = then (fielded (codes "refused ") c.number.ensures c.put_field.ensures)
          (then (fielded (codes " layer ") layer c.put_field-2.ensures)
          (then (fielded (codes " whose ") c.number-3.ensures c.put_field-3.ensures)
          c.put_field-4.ensures));
      short = line_short c.args.refusal (omega (arith, c.number.ensures)) (omega (arith, layer)) (omega (arith, c.number-3.ensures)) (omega arith);
    }
