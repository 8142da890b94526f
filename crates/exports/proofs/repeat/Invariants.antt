use Rattle.std.proofs.Common.{◌<◌, Some}
use Rattle.model.specs.Trees.{Tree}
use Rattle.model.specs.Rulebooks.{open_meaning}
use Rattle.model.specs.Round.{round}
use Rattle.model.specs.Safety.{Ready}
use Rattle.merging.specs.Held.{Held, Merged}
use Rattle.exports.proofs.repeat.Given as goal

abbrev pub invariant-loop-i : goal.invariant-loop-i
invariant-loop-i l =
    (o a b : Tree)
    → Held l.initial.area l.sizes o a b
    → Ready open_meaning (Some 0) o a b
    → Held l.area l.sizes o a b × (0 < l.i → Merged (round open_meaning o a b) l.area l.made)
