use Rattle.std.proofs.Common.{Err, refl, ap, ◌∙◌}
use Rattle.refusals.specs.declared.Reason.TheVariants.{Disobeys}
use Rattle.refusals.specs.Numbers.{refused}
use Rattle.records.specs.Reading.{passed}
use Rattle.obeying.specs.Lawful.{faulty}
use Rattle.ledger.specs.Answers.{whose_of, copy}
use Rattle.service.specs.Service.{trees}
use Rattle.service.proofs.Once.{kept_itself}
use Rattle.service.proofs.Kept.{copy_unmarked}
use Rattle.service.proofs.Files.{kept, stays_kept, side_held}
use Rattle.service.proofs.types.File.obey.Goals as goal

pub first_unlawful-requires : goal.first_unlawful-requires
first_unlawful-requires g c =
    let f = c.args.self.now in
    let e = c.args.side in
    (copy e (trees f), side_held f e _ c.into-table.ensures _ c.get.ensures, copy_unmarked (kept f) e)

pub invariant_of-self : goal.invariant_of-self
invariant_of-self g c = record { ok = ∣ kept_itself (stays_kept c.args.self.now c.first_unlawful.ensures.only (λ t. refl)) ∣₁ }

pub returns-in-Some-clause-answer : goal.returns-in-Some-clause-answer
returns-in-Some-clause-answer g c =
    let f = c.args.self.now in
    let e = c.args.side in
    let t = copy e (trees f) in
    ap Err (c.refuse.ensures ∙ ap (λ w. refused Disobeys w c.in-Some.node) c.into.ensures)
    ∙ ap (λ o. passed (tt {0}) (faulty (whose_of e) t o))
    (c.in-Some.ensures.answer t (side_held f e _ c.into-table.ensures _ c.get.ensures) (copy_unmarked (kept f) e))

pub returns-in-None-clause-answer : goal.returns-in-None-clause-answer
returns-in-None-clause-answer g c =
    let f = c.args.self.now in
    let e = c.args.side in
    let t = copy e (trees f) in
    ap (λ o. passed (tt {0}) (faulty (whose_of e) t o))
    (c.in-None.ensures.answer t (side_held f e _ c.into-table.ensures _ c.get.ensures) (copy_unmarked (kept f) e))
