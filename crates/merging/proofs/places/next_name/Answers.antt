use Rattle.std.proofs.Common.{◌∙◌, arith}
use Rattle.tables.specs.declared.Table.TheVariants.{Field, Bench}
use Rattle.merging.proofs.Finding.{carried}
use Rattle.merging.proofs.Leads.{lead, bare, least_first, least_second, least_both}
use Rattle.merging.proofs.places.next_name.Goals as goal

pub at-requires : goal.at-requires
at-requires c =
    let w = lead (c.requires.1 Bench) (omega (arith, c.requires.2, (c.requires.1 Field).ends, c.if-at-ends.true)) in
    (_, carried c.part.ensures.words w.here)

pub returns-then-at-ends : goal.returns-then-at-ends
returns-then-at-ends c left h =
    let w = lead (h Bench) (omega (arith, c.requires.2, (c.requires.1 Field).ends, (c.requires.1 Bench).ends, (h Bench).ends, c.if-at-ends.true)) in
    least_second _ (bare (h Field) c.if-at-ends.true) w (c.name.ensures ∙ c.at.ensures.name _ (carried c.part.ensures.words w.here))

pub at-requires-2 : goal.at-requires-2
at-requires-2 c =
    let w = lead (c.requires.1 Field) (omega (arith, (c.requires.1 Field).ends, c.if-at-ends.false)) in
    (_, carried c.part-2.ensures.words w.here)

pub returns-then-at-ends-2 : goal.returns-then-at-ends-2
returns-then-at-ends-2 c left h =
    let w = lead (h Field) (omega (arith, (h Field).ends, c.if-at-ends.false)) in
    least_first _ (bare (h Bench) c.if-at-ends-2.true) w (c.name-name.ensures ∙ c.at-2.ensures.name _ (carried c.part-2.ensures.words w.here))

pub at-requires-3 : goal.at-requires-3
at-requires-3 c =
    let w = lead (c.requires.1 Bench) (omega (arith, (c.requires.1 Bench).ends, c.if-at-ends-2.false)) in
    (_, carried c.part-3.ensures.words w.here)

pub returns : goal.returns
returns c left h =
    let v = lead (h Field) (omega (arith, (h Field).ends, c.if-at-ends.false)) in
    let w = lead (h Bench) (omega (arith, (h Bench).ends, c.if-at-ends-2.false)) in
    least_both _ _ _ v w c.min.ensures (c.name-name.ensures ∙ c.at-2.ensures.name _ (carried c.part-2.ensures.words v.here))
    (c.name-2.ensures ∙ c.at-3.ensures.name _ (carried c.part-3.ensures.words w.here))
