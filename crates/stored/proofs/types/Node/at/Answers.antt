use Rattle.std.proofs.Common.{◌+◌, ◌*◌, arith}
use Rattle.stored.proofs.Places.{node_at}
use Rattle.stored.proofs.Own.{own_among, owning, whole_decodes}
use Rattle.stored.proofs.types.Node.at.Goals as goal

pub bounds-words-at : goal.bounds-words-at
bounds-words-at c = let w = node_at c.requires.1 in omega arith

pub slice_bounds-result-end : goal.slice_bounds-result-end
slice_bounds-result-end c = let w = node_at c.requires.1 in omega (arith, w.size_is, w.whole)

pub invariant_of-result : goal.invariant_of-result
invariant_of-result c =
    let s = c.requires.0 in
    let h = c.requires.1 in
    record { ok = ∣ owning s.tree s.name s.is_present s.well_formed (omega (arith, (node_at h).size_is, (c.type_inv.words (3 * c.args.at + 1)).fits)) (own_among _ _ h (node_at h).size_is) ∣₁ }

pub returns-clause-tree : goal.returns-clause-tree
returns-clause-tree c s h = whole_decodes s.tree s.name s.is_present s.well_formed (own_among _ _ h (node_at h).size_is)
