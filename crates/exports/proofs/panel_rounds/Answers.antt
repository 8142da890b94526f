use Rattle.std.proofs.Common.{arith}
use Rattle.exports.proofs.Rounds.{found, few, told}
use Rattle.exports.proofs.panel_rounds.Goals as goal

pub repeat-made-requires : goal.repeat-made-requires
repeat-made-requires c =
    let x = found _ c.args.archive.now c.args.field.now c.args.bench.now c.in-Ok-load.views c.in-Ok-load.ensures.answer c.in-Ok-load.ensures.holds c.counts.ensures in
    (x.trees.archive, x.trees.field, x.trees.bench, x.held, x.ready)

pub overflow_add-result : goal.overflow_add-result
overflow_add-result c =
    let x = found _ c.args.archive.now c.args.field.now c.args.bench.now c.in-Ok-load.views c.in-Ok-load.ensures.answer c.in-Ok-load.ensures.holds c.counts.ensures in
    omega (arith, few x c.repeat-made.new.area c.repeat-made.result (c.repeat-made.ensures x.trees.archive x.trees.field x.trees.bench x.held x.ready (omega arith)))

pub returns : goal.returns
returns c =
    let x = found _ c.args.archive.now c.args.field.now c.args.bench.now c.in-Ok-load.views c.in-Ok-load.ensures.answer c.in-Ok-load.ensures.holds c.counts.ensures in
    told x c.repeat-made.new.area c.repeat-made.result (c.repeat-made.ensures x.trees.archive x.trees.field x.trees.bench x.held x.ready (omega arith))
