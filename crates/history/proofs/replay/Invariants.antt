use Rattle.std.proofs.Common.{◌≡◌, vec_items}
use Rattle.history.specs.Desks.{state_of, limit_of}
use Rattle.history.proofs.Runs.{Going}
use Rattle.history.proofs.replay.Given as goal

abbrev pub invariant-loop-call : goal.invariant-loop-call
invariant-loop-call g l =
    Going (g.R.Rulebook.meaning l.rules) (limit_of l.initial.desk) l.calls l.call-index (state_of l.initial.desk) (state_of l.desk) (vec_items l.answers)
    × (limit_of l.desk ≡ limit_of l.initial.desk)
