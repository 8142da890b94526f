use Rattle.std.proofs.Common.{◌≡◌, ◌-◌, ◌+◌, ◌≤◌, Err, sym, refl, ap, ◌∙◌, arith}
use Rattle.model.specs.Trees.{nodes}
use Rattle.model.specs.Edits.{set_at}
use Rattle.refusals.specs.declared.Reason.TheVariants.{Crowded}
use Rattle.refusals.specs.Numbers.{refused}
use Rattle.records.specs.Views.{tree_of}
use Rattle.records.proofs.Views.{tells}
use Rattle.ledger.specs.Answers.{whose_of, copy, told, left}
use Rattle.service.specs.Service.{trees, limit}
use Rattle.service.specs.Edits.{edited, replaced}
use Rattle.service.proofs.Once.{kept_trees, kept_itself}
use Rattle.service.proofs.Files.{stays_kept, side_held}
use Rattle.service.proofs.Renewing.{counts, gone_few, brought_few, brought, too_many, few_enough}
use Rattle.service.proofs.types.File.replace.Goals.{After-nodes_at}
use Rattle.service.proofs.types.File.replace.Goals as goal

-- The nodes of the copy with the tree in place.
counted : (c : After-nodes_at)
    → c.get-count.result + c.count-grown.result - c.nodes_at.result ≡ nodes (set_at (copy c.args.side (trees c.args.self.now)) c.args.path.now (tree_of c.args.view))
counted c =
    counts c.requires _ _ _ (side_held c.args.self.now c.args.side _ c.into.ensures _ c.get-count.ensures).count c.count-grown.ensures c.nodes_at.ensures

pub overflow_sub-new : goal.overflow_sub-new
overflow_sub-new c =
    gone_few c.requires _ _ _ (side_held c.args.self.now c.args.side _ c.into.ensures _ c.get-count.ensures).count c.count-grown.ensures c.nodes_at.ensures

pub returns-then-new-limit : goal.returns-then-new-limit
returns-then-new-limit c =
    let f = c.args.self.now in
    let e = c.args.side in
    let n = counted (goal.at.returns-then-new-limit c).After-nodes_at in
    let is : replaced (limit f) (trees f) e c.args.path.now (tree_of c.args.view) ≡ Err c.refuse.result =
    too_many (limit f) (trees f) e c.args.path.now (tree_of c.args.view) (omega (arith, n, c.limit.ensures, c.if-new-limit.true))
    ∙ ap Err (ap (refused Crowded (whose_of e)) (sym n) ∙ ap (λ x. refused Crowded x (c.get-count.result + c.count-grown.result - c.nodes_at.result)) (sym c.into-then-new-limit.ensures) ∙ sym c.refuse.ensures) in
    record { answer = ap told (sym is); state = ap (left (trees f)) (sym is); limit = refl }

pub bring-requires : goal.bring-requires
bring-requires c =
    let n = counted (goal.at.bring-requires c).After-nodes_at in
    let own = side_held c.args.self.now c.args.side _ c.into.ensures _ c.get-count.ensures in
    omega (arith, n, c.limit.ensures, c.if-new-limit.false, brought_few c.requires _ _ _ own.count c.count-grown.ensures c.nodes_at.ensures)

pub invariant_of-self : goal.invariant_of-self
invariant_of-self c = record { ok = ∣ kept_itself (stays_kept c.args.self.now c.bring.ensures.only (λ t. refl)) ∣₁ }

pub renew-requires : goal.renew-requires
renew-requires c =
    let f = c.args.self.now in
    let n = counted (goal.at.renew-requires c).After-nodes_at in
    let own = side_held f c.args.side _ c.into.ensures _ c.get-count.ensures in (
      tree_of c.args.view,
      brought c.requires _ _ _ own.count c.count-grown.ensures c.nodes_at.ensures (tells c.args.view).well_formed c.bring.ensures.only
          (kept_trees (stays_kept f c.bring.ensures.only (λ t. refl))) _ c.bring.ensures.stored (omega (arith, n, c.limit.ensures, c.if-new-limit.false)),
    )

pub returns : goal.returns
returns c =
    let f = c.args.self.now in
    let e = c.args.side in
    let p = c.args.path.now in
    let u = tree_of c.args.view in
    let n = counted (goal.at.returns c).After-nodes_at in
    let own = side_held f e _ c.into.ensures _ c.get-count.ensures in
    let same = kept_trees (stays_kept f c.bring.ensures.only (λ t. refl)) in
    let few : nodes (set_at (copy e (trees f)) p u) ≤ limit f = omega (arith, n, c.limit.ensures, c.if-new-limit.false) in
    let is = few_enough (limit f) (trees f) e p u few in
    record {
      answer = ap told (sym is);
      state =
          c.renew.ensures.state u
          (brought c.requires _ _ _ own.count c.count-grown.ensures c.nodes_at.ensures (tells c.args.view).well_formed c.bring.ensures.only same _ c.bring.ensures.stored few)
          ∙ ap (λ s. edited s e p u) same ∙ ap (left (trees f)) (sym is);
      limit = c.renew.ensures.limit ∙ c.bring.ensures.only.same_limit;
    }
