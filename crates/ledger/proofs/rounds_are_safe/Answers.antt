use Rattle.ledger.proofs.Histories.{rounds_are_safe}
use Rattle.ledger.proofs.rounds_are_safe.Goals as goal

pub returns : goal.returns
returns c = rounds_are_safe
