use Rattle.model.proofs.Edits.{edits_bring_no_marks}
use Rattle.model.proofs.edits_bring_no_marks.Goals as goal

pub returns : goal.returns
returns c = edits_bring_no_marks
