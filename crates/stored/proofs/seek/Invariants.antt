use Rattle.std.proofs.Common.{◌-◌}
use Rattle.model.specs.Trees.{Forest}
use Rattle.stored.specs.Lookup.{Between}
use Rattle.stored.proofs.Rows.{Along}
use Rattle.stored.proofs.Seeking.{Nearing}
use Rattle.stored.proofs.seek.Given as goal

abbrev pub invariant-loop-at : goal.invariant-loop-at
invariant-loop-at l =
    (f : Forest) (b : Between l.words l.from l.end f)
    → Along l.words b.rest l.end l.at (Nearing l.wanted l.from f l.at)

abbrev pub decreases-loop-at : goal.decreases-loop-at
decreases-loop-at l = l.end - l.at
