use Rattle.std.proofs.Common.{◌∙◌}
use Rattle.model.specs.Trees.{same}
use Rattle.merging.proofs.Finding.{carried, stood_at, nothing_at, neither, first_only, second_only}
use Rattle.merging.proofs.places.alike.Goals as goal

pub at-requires : goal.at-requires
at-requires c = (_, carried c.part-xs.ensures.words (stood_at c.in-Ok-Ok.is-0 c.requires.4).here)

pub at-requires-in-Ok-Ok : goal.at-requires-in-Ok-Ok
at-requires-in-Ok-Ok c = (_, carried c.part-ys.ensures.words (stood_at c.in-Ok-Ok.is-1 c.requires.5).here)

pub returns-in-Ok-Ok : goal.returns-in-Ok-Ok
returns-in-Ok-Ok c j k a b ha hb =
    let x = c.at.ensures.tree _ (carried c.part-xs.ensures.words (stood_at c.in-Ok-Ok.is-0 ha).here) in
    let y = c.at-in-Ok-Ok.ensures.tree _ (carried c.part-ys.ensures.words (stood_at c.in-Ok-Ok.is-1 hb).here) in
    c.same.ensures ∙ λ i. same (x i) (y i)

pub returns-in-Err-Err : goal.returns-in-Err-Err
returns-in-Err-Err c j k a b ha hb = neither (nothing_at c.in-Err-Err.is-0 ha) (nothing_at c.in-Err-Err.is-1 hb)

pub returns-in-Ok-Err : goal.returns-in-Ok-Err
returns-in-Ok-Err c j k a b ha hb = first_only a b (stood_at c.in-Ok-Err.is-0 ha).is_present (nothing_at c.in-Ok-Err.is-1 hb)

pub returns-in-Ok-Err-2 : goal.returns-in-Ok-Err-2
returns-in-Ok-Err-2 c j k a b ha hb = second_only a b (nothing_at c.in-Ok-Err.is-0 ha) (stood_at c.in-Ok-Err.is-1 hb).is_present
