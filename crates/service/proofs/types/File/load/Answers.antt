use Rattle.std.proofs.Common.{Err, refl, sym, ap, ◌∙◌, subst}
use Rattle.std.proofs.lemmas.Result.{err_from_is_err_and}
use Rattle.loading.proofs.Held.{loaded_obeys}
use Rattle.area.specs.declared.regions.Region.TheVariants.{Tree}
use Rattle.loading.specs.Loads.{outcome_of}
use Rattle.ledger.specs.Answers.{left, told}
use Rattle.service.specs.Keeping.{Kept}
use Rattle.service.specs.Service.{trees, limit}
use Rattle.service.proofs.Once.{kept_trees, kept_itself}
use Rattle.service.proofs.Files.{stays_kept}
use Rattle.service.proofs.Loaded.{loaded_kept}
use Rattle.service.proofs.types.File.load.Given.{Over}
use Rattle.service.proofs.types.File.load.Goals.{After-counts-self}
use Rattle.service.proofs.types.File.load.Goals as goal

pub invariant_of-self : goal.invariant_of-self
invariant_of-self g c = record { ok = ∣ kept_itself (stays_kept c.args.self.now (c.in_err-views.ensures.stays refl) (λ t. refl)) ∣₁ }

pub returns-in_err-views : goal.returns-in_err-views
returns-in_err-views g c =
    let f = c.args.self.now in
    let r = err_from_is_err_and c.from_residual.result c.from_residual.ensures.1 in
    let only = c.in_err-views.ensures.stays refl in
    let is = c.in_err-views.ensures.answer in
    record {
      answer = r.1 ∙ ap Err r.2 ∙ ap told is;
      state = kept_trees (stays_kept f only (λ t. refl)) ∙ ap (left (trees f)) is;
      limit = only.same_limit;
    }

now_kept : (g : Over) (c : After-counts-self g) → Kept c.load.new.area Tree c.counts-self.result (outcome_of c.in_ok-views.views)
now_kept g c =
    let m = g.R.Rulebook.meaning c.args.rules.now in
    let h = c.in_ok-views.ensures in
    let t = outcome_of c.in_ok-views.views in
    subst (λ n. Kept c.load.new.area Tree n t) (sym c.counts-self.ensures)
    (loaded_kept m h.holds (loaded_obeys m (limit c.args.self.now) c.args.archive.now c.args.field.now c.args.bench.now t (sym h.answer)))

pub invariant_of-self-2 : goal.invariant_of-self-2
invariant_of-self-2 g c = record { ok = ∣ kept_itself (now_kept g (goal.at.invariant_of-self-2 g c).After-counts-self) ∣₁ }

pub returns : goal.returns
returns g c =
    let is = c.in_ok-views.ensures.answer in
    record {
      answer = ap told is;
      state = kept_trees (now_kept g (goal.at.returns g c).After-counts-self) ∙ ap (left (trees c.args.self.now)) is;
      limit = c.in_ok-views.ensures.only.same_limit;
    }
