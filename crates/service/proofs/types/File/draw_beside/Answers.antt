use Rattle.std.proofs.Common.{Err, sym, refl, ap, ◌∙◌}
use Rattle.std.proofs.lemmas.Result.{err_from_is_err_and}
use Rattle.service.specs.Service.{outcome_in}
use Rattle.service.proofs.Once.{kept_itself}
use Rattle.service.proofs.Files.{stays_kept}
use Rattle.service.proofs.Outcomes.{Drew, given, archive_refused, field_refused, bench_refused, outcome_came, outcome_is}
use Rattle.service.proofs.types.File.draw_beside.Given.{Over}
use Rattle.service.proofs.types.File.draw_beside.Goals.{After-limit-limit}
use Rattle.service.proofs.types.File.draw_beside.Goals as goal

drew : (g : Over) (c : After-limit-limit g)
    → Drew (g.R.Rulebook.meaning c.args.rules.now) c.args.self.now c.both_obey.new.self c.round-new.new.area c.round-new.result c.limit-limit.result
drew g c =
    record {
      obeyed = c.in_ok-both_obey.ensures.answer;
      same = c.both_obey.ensures.same;
      merges = c.round-new.ensures.merged;
      limit_is = c.limit-limit.ensures;
      same_limit = c.round-new.ensures.only.same_limit;
    }

pub round-new-requires : goal.round-new-requires
round-new-requires g c =
    record { given = given (g.R.Rulebook.meaning c.args.rules.now) c.args.self.now c.both_obey.new.self c.in_ok-both_obey.ensures.answer c.both_obey.ensures.same }

pub invariant_of-self : goal.invariant_of-self
invariant_of-self g c = record { ok = ∣ kept_itself (stays_kept c.both_obey.new.self c.round-new.ensures.only (λ t. refl)) ∣₁ }

pub returns-in_err-fit-clause-answer : goal.returns-in_err-fit-clause-answer
returns-in_err-fit-clause-answer g c =
    let r = err_from_is_err_and c.from_residual-in_err-fit.result c.from_residual-in_err-fit.ensures.1 in
    ap (outcome_in c.round-new.new.area) (r.1 ∙ ap Err r.2)
    ∙ sym (archive_refused (drew g (goal.at.returns-in_err-fit-clause-answer g c).After-limit-limit) c.in_err-fit.ensures)

pub returns-in_err-fit-2-clause-answer : goal.returns-in_err-fit-2-clause-answer
returns-in_err-fit-2-clause-answer g c =
    let r = err_from_is_err_and c.from_residual-in_err-fit-2.result c.from_residual-in_err-fit-2.ensures.1 in
    ap (outcome_in c.round-new.new.area) (r.1 ∙ ap Err r.2)
    ∙ sym (field_refused (drew g (goal.at.returns-in_err-fit-2-clause-answer g c).After-limit-limit) c.in_ok-fit.ensures c.in_err-fit-2.ensures)

pub returns-in_err-fit-3-clause-answer : goal.returns-in_err-fit-3-clause-answer
returns-in_err-fit-3-clause-answer g c =
    let r = err_from_is_err_and c.from_residual-in_err-fit-3.result c.from_residual-in_err-fit-3.ensures.1 in
    ap (outcome_in c.round-new.new.area) (r.1 ∙ ap Err r.2)
    ∙ sym (bench_refused (drew g (goal.at.returns-in_err-fit-3-clause-answer g c).After-limit-limit) c.in_ok-fit.ensures c.in_ok-fit-2.ensures c.in_err-fit-3.ensures)

pub returns-clause-answer : goal.returns-clause-answer
returns-clause-answer g c =
    outcome_is (drew g (goal.at.returns-clause-answer g c).After-limit-limit) c.in_ok-fit.ensures c.in_ok-fit-2.ensures c.in_ok-fit-3.ensures

pub returns-clause-came : goal.returns-clause-came
returns-clause-came g c =
    outcome_came (drew g (goal.at.returns-clause-came g c).After-limit-limit) c.in_ok-fit.ensures c.in_ok-fit-2.ensures c.in_ok-fit-3.ensures
