use Rattle.std.proofs.Common.{◌∙◌}
use Rattle.editing.proofs.Carried.{carried, carry}
use Rattle.editing.proofs.reading.name.Goals as goal

pub at-requires : goal.at-requires
at-requires c = carry c.part.ensures.words c.requires

pub returns : goal.returns
returns c s h = c.name.ensures ∙ c.at.ensures.name s (carried c.part.ensures.words h)
