use Rattle.stored.proofs.Once.{open_whole}
use Rattle.stored.proofs.Own.{no_root, some_root, root_owns}
use Rattle.stored.proofs.types.Held.root.Goals as goal

pub invariant_of-result : goal.invariant_of-result
invariant_of-result c = record { ok = ∣ root_owns (open_whole c.args.self.ok) c.if-self-eq0.false ∣₁ }

pub returns-then-self-eq0 : goal.returns-then-self-eq0
returns-then-self-eq0 c = no_root (open_whole c.args.self.ok) c.if-self-eq0.true

pub returns-else-self-eq0 : goal.returns-else-self-eq0
returns-else-self-eq0 c = some_root (open_whole c.args.self.ok) c.if-self-eq0.false
