use Rattle.std.proofs.Common.{◌*◌, sym}
use Rattle.std.proofs.lemmas.List.{length-take-le}
use Rattle.stored.proofs.Narrow.{narrow}
use Rattle.stored.proofs.Own.{owning_whole, held_decodes, held_words, held_long}
use Rattle.stored.proofs.types.Held.new.Goals as goal

pub slice_bounds-result-end : goal.slice_bounds-result-end
slice_bounds-result-end c = sym (length-take-le (3 * c.args.count) c.args.words.now (held_long c.requires.1))

pub invariant_of-result : goal.invariant_of-result
invariant_of-result c =
    let h = c.requires.1 in
    record { ok = ∣ owning_whole c.requires.0 h.begins.well_formed h.few h.shallow (narrow (λ i. (c.type_inv.words i).fits) h) (held_words h) ∣₁ }

pub returns : goal.returns
returns c t h = held_decodes t h.begins.well_formed (held_words h)
