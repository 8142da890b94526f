use Rattle.model.proofs.Theorems.{equal_trees_are_one}
use Rattle.model.proofs.equal_trees_are_one.Goals as goal

pub returns : goal.returns
returns c = equal_trees_are_one
