use Rattle.std.proofs.Common.{◌≡◌, subst, arith}
use Rattle.model.specs.Trees.{Tree as TheTree}
use Rattle.ledger.specs.declared.Side.{Side}
use Rattle.ledger.specs.Answers.{copy}
use Rattle.area.specs.declared.regions.Region.TheVariants.{Tree}
use Rattle.service.specs.Keeping.{Kept}
use Rattle.service.specs.Service.{trees}
use Rattle.service.specs.Edits.{edited, Renews}
use Rattle.service.proofs.Once.{kept_trees, kept_itself}
use Rattle.service.proofs.Kept.{with_size}
use Rattle.service.proofs.Renewing.{edited_of, renewed}
use Rattle.service.proofs.types.File.renew.Goals.{After-adopt}
use Rattle.service.proofs.types.File.renew.Goals as goal

pub edit-new-requires-clause-given : goal.edit-new-requires-clause-given
edit-new-requires-clause-given c =
    (copy c.args.side (trees c.args.self.now), c.requires.0, edited_of c.requires.1 _ c.into-table.ensures _ c.get-count.ensures)

pub adopt-requires : goal.adopt-requires
adopt-requires c =
    let w = c.requires.1 in
    omega (arith, w.few, c.edit-new.ensures.number _ _ (edited_of w _ c.into-table.ensures _ c.get-count.ensures), c.edit-new.ensures.only.same_limit)

-- The copy was written and adopted.
now_kept : (c : After-adopt) (e : Side) → c.args.side ≡ e → (u : TheTree) → Renews c.args.self.now c.args.side c.args.path.now c.args.grown u
    → Kept c.adopt.new.area Tree (with_size e c.edit-new.result c.args.self.now.sizes) (edited (trees c.args.self.now) c.args.side c.args.path.now u)
now_kept c e q u w =
    let is = c.into-table.ensures in
    let d = edited_of w _ is _ c.get-count.ensures in
    subst (λ y. Kept c.adopt.new.area Tree (with_size y c.edit-new.result c.args.self.now.sizes) (edited (trees c.args.self.now) c.args.side c.args.path.now u)) q
    (renewed w _ is _ (c.edit-new.ensures.number _ u d) (c.edit-new.ensures.words _ u d) c.edit-new.ensures.only c.adopt.ensures.only c.adopt.ensures.held)

pub invariant_of-self : goal.invariant_of-self
invariant_of-self c = record { ok = ∣ kept_itself (now_kept (goal.at.invariant_of-self c).After-adopt _ c.in-Field.is _ c.requires.1) ∣₁ }

pub invariant_of-self-in-Bench : goal.invariant_of-self-in-Bench
invariant_of-self-in-Bench c = record { ok = ∣ kept_itself (now_kept (goal.at.invariant_of-self-in-Bench c).After-adopt _ c.in-Bench.is _ c.requires.1) ∣₁ }

pub returns-in-Field-clause-state : goal.returns-in-Field-clause-state
returns-in-Field-clause-state c u w = kept_trees (now_kept (goal.at.returns-in-Field-clause-state c).After-adopt _ c.in-Field.is u w)

pub returns-in-Bench-clause-state : goal.returns-in-Bench-clause-state
returns-in-Bench-clause-state c u w = kept_trees (now_kept (goal.at.returns-in-Bench-clause-state c).After-adopt _ c.in-Bench.is u w)
