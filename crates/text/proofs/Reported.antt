-- The examples of lines and reports.
use Rattle.std.proofs.Common.{refl}
use Rattle.std.specs.Fmt.{digits}
use Rattle.text.specs.Reported.{WorkedReports}

pub worked_reports : WorkedReports
unfolding digits
worked_reports = record { first_refusal_line = refl; a_report = refl }
