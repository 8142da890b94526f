use Rattle.text.proofs.Reported.{worked_reports}
use Rattle.text.proofs.worked_reports.Goals as goal

pub returns : goal.returns
returns c = worked_reports
