use Rattle.std.proofs.Common.{sym, ap, ◌∙◌}
use Rattle.model.specs.Trees.{is_mark}
use Rattle.merging.proofs.Finding.{carried, stood_at, nothing_at}
use Rattle.merging.proofs.places.marked.Goals as goal

pub at-requires : goal.at-requires
at-requires c = (_, carried c.part.ensures.words (stood_at c.in-Ok.is c.requires.2).here)

pub returns-in-Ok : goal.returns-in-Ok
returns-in-Ok c k a h = c.is_mark.ensures ∙ ap is_mark (c.at.ensures.tree _ (carried c.part.ensures.words (stood_at c.in-Ok.is h).here))

pub returns-in-Err : goal.returns-in-Err
returns-in-Err c k a h = sym (ap is_mark (nothing_at c.in-Err.is h))
