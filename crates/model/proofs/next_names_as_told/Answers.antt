use Rattle.model.proofs.Next.{next_names_as_told}
use Rattle.model.proofs.next_names_as_told.Goals as goal

pub returns : goal.returns
returns c = next_names_as_told
