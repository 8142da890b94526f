use Rattle.std.proofs.Common.{true, false, sym, refl, ap, ◌∙◌}
use Rattle.model.specs.Trees.{present}
use Rattle.stored.specs.Lookup.{is_found}
use Rattle.merging.proofs.Finding.{five, found_present}
use Rattle.tables.specs.declared.Table.TheVariants.{Archive, Field, Bench}
use Rattle.merging.proofs.places.choose.Goals as goal

pub alike-requires : goal.alike-requires
alike-requires c = (_, _, _, _, c.requires.1 Field, c.requires.1 Bench)

pub alike-requires-2 : goal.alike-requires-2
alike-requires-2 c = (_, _, _, _, c.requires.1 Field, c.requires.1 Archive)

pub alike-requires-3 : goal.alike-requires-3
alike-requires-3 c = (_, _, _, _, c.requires.1 Bench, c.requires.1 Archive)

pub marked-requires : goal.marked-requires
marked-requires c = (_, _, c.requires.1 Archive)

pub returns-then-marked : goal.returns-then-marked
returns-then-marked c ts h =
    five (ts Archive) (ts Field) (ts Bench) false false false true (present (ts Field)) (present (ts Bench))
    (sym (c.alike.ensures _ _ _ _ (h Field) (h Bench)) ∙ c.if-alike.false)
    (sym (c.alike-2.ensures _ _ _ _ (h Field) (h Archive)) ∙ c.if-alike-2.false)
    (sym (c.alike-3.ensures _ _ _ _ (h Bench) (h Archive)) ∙ c.if-alike-3.false)
    (sym (c.marked.ensures _ _ (h Archive)) ∙ c.if-marked.true) refl refl

pub returns-in-Ok-Ok : goal.returns-in-Ok-Ok
returns-in-Ok-Ok c ts h =
    five (ts Archive) (ts Field) (ts Bench) false false false false true true
    (sym (c.alike.ensures _ _ _ _ (h Field) (h Bench)) ∙ c.if-alike.false)
    (sym (c.alike-2.ensures _ _ _ _ (h Field) (h Archive)) ∙ c.if-alike-2.false)
    (sym (c.alike-3.ensures _ _ _ _ (h Bench) (h Archive)) ∙ c.if-alike-3.false)
    (sym (c.marked.ensures _ _ (h Archive)) ∙ c.if-marked.false)
    (sym (found_present (h Field)) ∙ ap is_found c.in-Ok-Ok.is-0) (sym (found_present (h Bench)) ∙ ap is_found c.in-Ok-Ok.is-1)
