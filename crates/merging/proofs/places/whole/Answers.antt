use Rattle.std.proofs.Common.{Bool, subst}
use Rattle.std.proofs.lemmas.Bool.{lt-ltb, le-ltb}
use Rattle.merging.specs.Tables.{At}
use Rattle.merging.proofs.Roots.{at_root, whole_at}
use Rattle.merging.proofs.places.whole.Goals as goal

pub returns-then-count-gt0-clause-here : goal.returns-then-count-gt0-clause-here
returns-then-count-gt0-clause-here c ws t h =
    subst (λ (b : Bool). At ws 0 (at_root b) t) (lt-ltb 0 c.args.count c.if-count-gt0.true) (whole_at ws c.args.count t h)

pub returns-else-count-gt0-clause-here : goal.returns-else-count-gt0-clause-here
returns-else-count-gt0-clause-here c ws t h =
    subst (λ (b : Bool). At ws 0 (at_root b) t) (le-ltb 0 c.args.count c.if-count-gt0.false) (whole_at ws c.args.count t h)
