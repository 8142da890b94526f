use Rattle.std.proofs.Common.{◌≡◌}
use Rattle.model.specs.Trees.{Tree, marks}
use Rattle.stored.specs.Words.{Holds}
use Rattle.editing.proofs.Routes.{Leads}
use Rattle.editing.proofs.reaching.reach.Given as goal

abbrev pub invariant-loop-names : goal.invariant-loop-names
invariant-loop-names l = (t : Tree) → Holds l.words l.count t → marks t ≡ 0 → Leads l.words t l.path l.names l.at
