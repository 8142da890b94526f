use Rattle.model.proofs.Edits.{edits_are_counted}
use Rattle.model.proofs.edits_are_counted.Goals as goal

pub returns : goal.returns
returns c = edits_are_counted
