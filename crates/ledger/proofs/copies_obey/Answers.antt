use Rattle.ledger.proofs.Histories.{copies_obey}
use Rattle.ledger.proofs.copies_obey.Goals as goal

pub returns : goal.returns
returns c = copies_obey
