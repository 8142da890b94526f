use Rattle.std.proofs.Common.{Err, ap, ◌∙◌, refl}
use Rattle.std.proofs.lemmas.Result.{err_from_is_err_and}
use Rattle.records.specs.Reading.{located}
use Rattle.records.proofs.Siblings.{was_ok, was_err}
use Rattle.records.proofs.Views.{found, within, refused_too, refused, accepted, says_refused, tells_itself}
use Rattle.records.proofs.read.Goals as goal

pub returns-in_err-records : goal.returns-in_err-records
returns-in_err-records c =
    let p = err_from_is_err_and c.from_residual.result c.from_residual.ensures.1 in
    refused c.args.bytes.now c.args.wanted (p.1 ∙ ap Err p.2) (says_refused c.args.bytes.now c.args.wanted _ (was_err _ (located c.args.bytes.now c.args.wanted) _ c.in_err-records.ensures))

pub whole-requires : goal.whole-requires
whole-requires c =
    let r = was_ok (located c.args.bytes.now c.args.wanted) _ c.in_ok-records.records c.in_ok-records.ensures in
    within c.args.bytes.now c.args.wanted r.0 c.in_ok-records.records.now r.1 r.2

pub returns-in_err-whole : goal.returns-in_err-whole
returns-in_err-whole c =
    let r = was_ok (located c.args.bytes.now c.args.wanted) _ c.in_ok-records.records c.in_ok-records.ensures in
    let p = err_from_is_err_and c.from_residual-in_err-whole.result c.from_residual-in_err-whole.ensures.1 in
    refused c.args.bytes.now c.args.wanted (p.1 ∙ ap Err p.2) (refused_too c.args.bytes.now c.args.wanted r.0 c.in_ok-records.records.now r.1 r.2 _ c.in_err-whole.ensures)

pub overflow_sub-start : goal.overflow_sub-start
overflow_sub-start c =
    let r = was_ok (located c.args.bytes.now c.args.wanted) _ c.in_ok-records.records c.in_ok-records.ensures in
    within c.args.bytes.now c.args.wanted r.0 c.in_ok-records.records.now r.1 r.2

pub invariant_of-result : goal.invariant_of-result
invariant_of-result c =
    let r = was_ok (located c.args.bytes.now c.args.wanted) _ c.in_ok-records.records c.in_ok-records.ensures in
    let f = found c.args.bytes.now c.args.wanted r.0 c.in_ok-records.records.now r.1 r.2 (λ i. (c.type_inv.bytes i).fits) c.in_ok-whole.ensures in
    record { ok = ∣ tells_itself f.tells ∣₁ }

pub returns : goal.returns
returns c =
    let r = was_ok (located c.args.bytes.now c.args.wanted) _ c.in_ok-records.records c.in_ok-records.ensures in
    let f = found c.args.bytes.now c.args.wanted r.0 c.in_ok-records.records.now r.1 r.2 (λ i. (c.type_inv.bytes i).fits) c.in_ok-whole.ensures in
    accepted (record { start = _; records = c.in_ok-records.records; ok = ∣ tells_itself f.tells ∣₁ }) refl f
