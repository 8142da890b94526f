use Rattle.std.proofs.Common.{ap, ◌∙◌, [], arith}
use Rattle.stored.specs.Nodes.{every_of, tree_held}
use Rattle.stored.proofs.Once.{open_whole}
use Rattle.stored.proofs.Nodes.{sound_alone, nodes_alone, emit_alone}
use Rattle.stored.proofs.Own.{owning_all, all_decode, every_alone}
use Rattle.stored.proofs.types.Held.nodes.Goals as goal

pub invariant_of-result : goal.invariant_of-result
invariant_of-result c =
    let h = open_whole c.args.self.ok in
    record { ok = ∣ owning_all _ (sound_alone _ h.well_formed) (omega (arith, h.few, nodes_alone (tree_held c.args.self))) (h.words ∙ emit_alone _ []) ∣₁ }

pub returns : goal.returns
returns c =
    let h = open_whole c.args.self.ok in
    ap (λ f. every_of f []) (all_decode _ (sound_alone _ h.well_formed) (h.words ∙ emit_alone _ [])) ∙ every_alone _
