use Rattle.std.proofs.Common.{ap, ◌∙◌}
use Rattle.refusals.specs.Output.{told, left}
use Rattle.records.specs.Views.{tree_of}
use Rattle.text.specs.Text.{text}
use Rattle.transfer.proofs.Storing.{held}
use Rattle.round.proofs.panel.view_text.Goals as goal

pub new-requires : goal.new-requires
new-requires c = (tree_of c.args.view, held c.args.view _ c.count.ensures c.store.ensures)

pub returns : goal.returns
returns c =
    let same = c.new.ensures _ (held c.args.view _ c.count.ensures c.store.ensures) in
    record {
      answer = c.write_text.ensures.answer ∙ ap (λ u. told (text u) c.args.out.now) same;
      output = c.write_text.ensures.output ∙ ap (λ u. left (text u) c.args.out.now) same;
    }
