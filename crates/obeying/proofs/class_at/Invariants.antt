use Rattle.std.proofs.Common.{◌≡◌, drop, Some}
use Rattle.model.specs.Meaning.{class_at}
use Rattle.obeying.proofs.class_at.Given as goal

abbrev pub invariant-loop-name : goal.invariant-loop-name
invariant-loop-name g l =
    class_at (g.R.Rulebook.meaning l.rules) l.class (drop l.name-index l.path)
    ≡ class_at (g.R.Rulebook.meaning l.rules) (Some 0) l.path
