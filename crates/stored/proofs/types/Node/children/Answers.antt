use Rattle.std.proofs.Common.{ap}
use Rattle.stored.specs.Nodes.{entries}
use Rattle.stored.proofs.Once.{open_owned}
use Rattle.stored.proofs.Own.{owning_all, all_decode, own_below, few_below, sound_own}
use Rattle.stored.proofs.types.Node.children.Goals as goal

pub invariant_of-result : goal.invariant_of-result
invariant_of-result c = let h = open_owned c.args.self.ok in record { ok = ∣ owning_all _ (sound_own h) (few_below h) (own_below h) ∣₁ }

pub returns : goal.returns
returns c = let h = open_owned c.args.self.ok in ap entries (all_decode _ (sound_own h) (own_below h))
