use Rattle.std.proofs.Common.{Ok, Err, sym, ap, ◌∙◌, arith}
use Rattle.refusals.specs.declared.Reason.TheVariants.{Count}
use Rattle.records.specs.Bytes.{entries_of}
use Rattle.records.specs.declared.Elder.TheVariants.{Root}
use Rattle.records.specs.Reading.{read, rests}
use Rattle.records.proofs.Chunks.{length_entries_of}
use Rattle.records.proofs.Siblings.{was_ok, place}
use Rattle.records.proofs.Views.{left_over}
use Rattle.records.proofs.Reading.whole.Goals as goal

pub returns-then-not-is_empty : goal.returns-then-not-is_empty
returns-then-not-is_empty c =
    let w = c.args.self.now.wanted in
    let end = c.args.self.now.end in
    let s = was_ok _ _ _ c.in_ok-rest.ensures.answer in
    ap Err (c.refuse-then-not-is_empty.ensures ∙ place w Count end c.in_ok-rest.rest.now)
    ∙ left_over w end (entries_of c.args.records.now) (entries_of c.in_ok-rest.rest.now) (grind (arith, length_entries_of c.args.records.now, c.if-is_empty.ensures))
    (ap (λ k. rests (read w end k 1 Root (entries_of c.args.records.now))) (sym c.saturating_sub-room.ensures) ∙ s.1 ∙ ap Ok (sym s.2)) (grind (arith, length_entries_of c.in_ok-rest.rest.now, c.if-not-is_empty.ensures))
