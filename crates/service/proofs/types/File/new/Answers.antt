use Rattle.std.proofs.Common.{ap}
use Rattle.ledger.specs.Ledger.{file}
use Rattle.service.proofs.Once.{kept_trees, kept_itself}
use Rattle.service.proofs.Kept.{nothing_kept}
use Rattle.service.proofs.types.File.new.Goals as goal

pub invariant_of-result : goal.invariant_of-result
invariant_of-result c = record { ok = ∣ kept_itself (nothing_kept c.new.result) ∣₁ }

pub returns-clause-state : goal.returns-clause-state
returns-clause-state c = ap file (kept_trees (nothing_kept c.new.result))
