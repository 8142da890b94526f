use Rattle.std.proofs.Common.{◌≤◌, length}
use Rattle.records.specs.Bytes.{entries_of}
use Rattle.records.specs.Reading.{read, rests}
use Rattle.records.proofs.Siblings.{Goes}
use Rattle.records.proofs.Reading.+siblings.Given as goal

abbrev pub decreases-siblings : goal.decreases-siblings
decreases-siblings l = length l.records.now

abbrev pub invariant-loop-left : goal.invariant-loop-left
invariant-loop-left l =
    (length l.rest ≤ length l.records)
    × Goes l.self.wanted l.self.end l.room (rests (read l.self.wanted l.self.end l.fn.room l.count l.fn.first (entries_of l.records))) l.left l.elder (entries_of l.rest)

abbrev pub decreases-loop-left : goal.decreases-loop-left
decreases-loop-left l = length l.rest
