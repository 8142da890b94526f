use Rattle.model.proofs.Edits.{edits_stay_shallow}
use Rattle.model.proofs.edits_stay_shallow.Goals as goal

pub returns : goal.returns
returns c = edits_stay_shallow
