use Rattle.std.proofs.Common.{length, take, Err, sym, refl, ap, ◌∙◌}
use Rattle.model.specs.Trees.{at}
use Rattle.refusals.specs.declared.Reason.TheVariants.{Edit}
use Rattle.refusals.specs.Numbers.{refused}
use Rattle.area.specs.Views.{view}
use Rattle.area.specs.declared.regions.Region.TheVariants.{Tree}
use Rattle.ledger.specs.Answers.{whose_of, copy}
use Rattle.service.specs.Service.{trees}
use Rattle.service.specs.Edits.{changed}
use Rattle.service.proofs.Once.{kept_itself}
use Rattle.service.proofs.Kept.{copy_unmarked}
use Rattle.service.proofs.Files.{kept, stays_kept}
use Rattle.service.proofs.Ways.{Found, found_in, stands_split, allows, forbids}
use Rattle.service.proofs.types.File.parent_allows.Given.{Over}
use Rattle.service.proofs.types.File.parent_allows.Goals.{After-into}
use Rattle.service.proofs.types.File.parent_allows.Goals as goal

-- The parent of the end of the path.
parent_found : (g : Over) (c : After-into g) → Found (view c.args.self.now.area (Tree c.into.result)) c.reach-at.result.at (at (copy c.args.side (trees c.args.self.now)) c.in-Some.parent.now)
parent_found g c =
    let f = c.args.self.now in
    let e = c.args.side in
    let t = copy e (trees f) in
    let u = copy_unmarked (kept f) e in
    found_in (c.copy-count.ensures.words ∙ ap (λ x. view f.area (Tree x)) (sym c.into.ensures)) (c.reach-at.ensures t c.copy-count.ensures.holds u) u
    (sym (stands_split _ _ _ c.in-Some.ensures.cases.0 t) ∙ c.requires)

pub reach-at-requires : goal.reach-at-requires
reach-at-requires g c =
    let f = c.args.self.now in
    (copy c.args.side (trees f), c.copy-count.ensures.holds, copy_unmarked (kept f) c.args.side)

pub gather_changed-many-requires : goal.gather_changed-many-requires
gather_changed-many-requires g c =
    let d = parent_found g (goal.at.gather_changed-many-requires g c).After-into in
    (d.self, d.here)

pub invariant_of-self : goal.invariant_of-self
invariant_of-self g c = record { ok = ∣ kept_itself (stays_kept c.args.self.now c.gather_changed-many.ensures.only (λ t. refl)) ∣₁ }

pub slice_bounds-allowed-end : goal.slice_bounds-allowed-end
slice_bounds-allowed-end g c =
    let d = parent_found g (goal.at.slice_bounds-allowed-end g c).After-into in
    c.gather_changed-many.ensures.many d.self d.here
    ∙ ap length (sym (c.gather_changed-many.ensures.front d.self d.here) ∙ ap (take c.gather_changed-many.result) (sym c.part.ensures.words))

pub returns-then-allowed-clause-answer : goal.returns-then-allowed-clause-answer
returns-then-allowed-clause-answer g c =
    allows _ _ _ c.in-Some.ensures.cases.0 (g.R.Rulebook.meaning c.args.rules.now) (whose_of c.args.side) (copy c.args.side (trees c.args.self.now)) (changed c.args.change)
    (parent_found g (goal.at.returns-then-allowed-clause-answer g c).After-into)
    (λ s k. ap (take c.gather_changed-many.result) c.part.ensures.words ∙ c.gather_changed-many.ensures.front s k)
    _ c.class_at-class.ensures _ c.allowed.ensures c.if-allowed.true

pub returns-clause-answer : goal.returns-clause-answer
returns-clause-answer g c =
    ap Err (c.refuse.ensures ∙ ap (λ w. refused Edit w (length c.in-Some.parent.now)) c.into-2.ensures)
    ∙ forbids _ _ _ c.in-Some.ensures.cases.0 (g.R.Rulebook.meaning c.args.rules.now) (whose_of c.args.side) (copy c.args.side (trees c.args.self.now)) (changed c.args.change)
    (parent_found g (goal.at.returns-clause-answer g c).After-into)
    (λ s k. ap (take c.gather_changed-many.result) c.part.ensures.words ∙ c.gather_changed-many.ensures.front s k)
    _ c.class_at-class.ensures _ c.allowed.ensures c.if-allowed.false
