use Rattle.ledger.proofs.Histories.{no_rival_does_more}
use Rattle.ledger.proofs.no_rival_does_more.Goals as goal

pub returns : goal.returns
returns c = no_rival_does_more
