use Rattle.model.proofs.Theorems.{marked_exactly_at_conflicts}
use Rattle.model.proofs.marked_exactly_at_conflicts.Goals as goal

pub returns : goal.returns
returns c = marked_exactly_at_conflicts
