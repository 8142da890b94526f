use Rattle.std.proofs.Common.{◌+◌, ◌-◌}
use Rattle.model.specs.Trees.{Forest, nodes_all}
use Rattle.transfer.specs.Moves.{Siblings}
use Rattle.transfer.proofs.Storing.{Going}
use Rattle.transfer.proofs.past.Given as goal

abbrev pub invariant-loop : goal.invariant-loop
invariant-loop l =
    (f : Forest) (s : Siblings l.words l.at l.k f) → Going l.words s.rest (l.at + nodes_all f) l.pos (l.k - l.counter)
