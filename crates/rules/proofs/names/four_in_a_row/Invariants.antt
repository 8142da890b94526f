use Rattle.std.proofs.Common.{◌≡◌, ◌<◌, ◌≤◌, drop}
use Rattle.model.specs.Rulebooks.{four_consecutive}
use Rattle.rules.proofs.Runs.{run_up}
use Rattle.rules.proofs.names.four_in_a_row.Given as goal

-- What is left, with the run that ends here before it, decides.
abbrev pub invariant-loop-name : goal.invariant-loop-name
invariant-loop-name l =
    (l.run < 4)
    × (l.run ≤ l.next)
    × (four_consecutive l.names ≡ four_consecutive (run_up l.run l.next (drop l.name-index l.names)))
