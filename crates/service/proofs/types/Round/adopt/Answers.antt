use Rattle.std.proofs.Common.{sym, ap, ◌∙◌}
use Rattle.area.specs.declared.regions.Region.TheVariants.{Tree, New}
use Rattle.ledger.specs.Answers.{left}
use Rattle.ledger.specs.Ledger.{file}
use Rattle.service.specs.Keeping.{Kept, trees_in}
use Rattle.service.specs.Service.{before, outcome_in}
use Rattle.service.proofs.Once.{kept_trees, kept_itself}
use Rattle.service.proofs.Files.{came_kept}
use Rattle.service.proofs.Outcomes.{taken_over}
use Rattle.service.proofs.types.Round.adopt.Goals.{After-adopt-3}
use Rattle.service.proofs.types.Round.adopt.Goals as goal

adopted : (c : After-adopt-3) → Kept c.adopt-3.new.area Tree c.in-Ok.new (trees_in c.args.self.file.area New c.in-Ok.new)
adopted c =
    taken_over c.adopt.ensures.only c.adopt-2.ensures.only c.adopt-3.ensures.only c.adopt.ensures.held c.adopt-2.ensures.held c.adopt-3.ensures.held
    (came_kept c.args.self.came c.in-Ok.is)

pub invariant_of-file : goal.invariant_of-file
invariant_of-file c = record { ok = ∣ kept_itself (adopted (goal.at.invariant_of-file c).After-adopt-3) ∣₁ }

pub returns-clause-state : goal.returns-clause-state
returns-clause-state c =
    let r = c.args.self in
    ap file (kept_trees (adopted (goal.at.returns-clause-state c).After-adopt-3) ∙ ap (λ d. left (before r) (outcome_in r.file.area d)) (sym c.in-Ok.is))
