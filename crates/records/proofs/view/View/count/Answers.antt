use Rattle.records.proofs.Views.{count_is}
use Rattle.records.proofs.view.View.count.Goals as goal

pub returns : goal.returns
returns c = count_is c.args.self
