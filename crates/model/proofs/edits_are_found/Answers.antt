use Rattle.model.proofs.Edits.{edits_are_found}
use Rattle.model.proofs.edits_are_found.Goals as goal

pub returns : goal.returns
returns c = edits_are_found
