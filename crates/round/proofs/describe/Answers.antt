use Rattle.std.proofs.Common.{ℕ, List, ◌∙◌, sym, subst}
use Rattle.refusals.specs.declared.Whose.TheVariants.{Field, Bench}
use Rattle.records.specs.Reading.{says}
use Rattle.round.specs.Shown.{an_archive, a_copy, TextOf}
use Rattle.round.proofs.Showing.{vector_stands}
use Rattle.round.proofs.describe.Goals as goal

pub returns-clause-archive : goal.returns-clause-archive
returns-clause-archive c =
    subst (λ (bs : List ℕ). TextOf (says bs an_archive) c.truncate.new.self.items) c.as_slice.ensures.value
    (subst (TextOf _) (sym c.truncate.ensures.items)
    (vector_stands _ c.as_mut_slice.result.now _ _ _ _ (c.archive_text.auto.out ∙ c.as_mut_slice.ensures.len) c.in_ok-length.ensures.answer c.in_ok-length.ensures.output))

pub returns-clause-field : goal.returns-clause-field
returns-clause-field c =
    subst (λ (bs : List ℕ). TextOf (a_copy Field bs) c.truncate-2.new.self.items) c.as_slice-copy.ensures.value
    (subst (TextOf _) (sym c.truncate-2.ensures.items)
    (vector_stands _ c.as_mut_slice-2.result.now _ _ _ _ (c.copy_text.auto.out ∙ c.as_mut_slice-2.ensures.len) c.in_ok-length-2.ensures.answer c.in_ok-length-2.ensures.output))

pub returns-clause-bench : goal.returns-clause-bench
returns-clause-bench c =
    subst (λ (bs : List ℕ). TextOf (a_copy Bench bs) c.truncate-3.new.self.items) c.as_slice-copy-2.ensures.value
    (subst (TextOf _) (sym c.truncate-3.ensures.items)
    (vector_stands _ c.as_mut_slice-3.result.now _ _ _ _ (c.copy_text-2.auto.out ∙ c.as_mut_slice-3.ensures.len) c.in_ok-length-3.ensures.answer c.in_ok-length-3.ensures.output))
