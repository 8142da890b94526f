use Rattle.model.proofs.Edits.{edits_keep_the_form}
use Rattle.model.proofs.edits_keep_the_form.Goals as goal

pub returns : goal.returns
returns c = edits_keep_the_form
