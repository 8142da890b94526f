use Rattle.ledger.proofs.Histories.{rounds_are_marked_at_conflicts}
use Rattle.ledger.proofs.rounds_are_marked_at_conflicts.Goals as goal

pub returns : goal.returns
returns c = rounds_are_marked_at_conflicts
