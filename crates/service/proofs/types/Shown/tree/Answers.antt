use Rattle.std.proofs.Common.{ap, ◌∙◌}
use Rattle.area.specs.Views.{view}
use Rattle.service.proofs.Kept.{tree_shown}
use Rattle.service.proofs.Files.{shown_kept}
use Rattle.service.proofs.types.Shown.tree.Goals as goal

pub new-requires : goal.new-requires
new-requires c =
    let s = c.args.self in
    (_, tree_shown (shown_kept s) c.args.table _ (c.part-words.ensures.words ∙ ap (view s.area.now) c.region.ensures) _ c.get.ensures)

pub returns : goal.returns
returns c =
    let s = c.args.self in
    c.new.ensures _ (tree_shown (shown_kept s) c.args.table _ (c.part-words.ensures.words ∙ ap (view s.area.now) c.region.ensures) _ c.get.ensures)
