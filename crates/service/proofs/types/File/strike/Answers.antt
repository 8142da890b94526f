use Rattle.std.proofs.Common.{sym, ap, ◌∙◌}
use Rattle.model.specs.Trees.{missing, present, at}
use Rattle.ledger.specs.Answers.{whose_of, copy, left}
use Rattle.service.specs.Service.{trees}
use Rattle.service.specs.Edits.{edited}
use Rattle.service.proofs.Files.{same_on}
use Rattle.service.proofs.Ways.{end_has_parent}
use Rattle.service.proofs.Renewing.{struck}
use Rattle.service.proofs.Answering.{led_there, has_parent, all_passed, strike_done}
use Rattle.service.proofs.types.File.strike.Goals as goal

pub parent_allows-requires : goal.parent_allows-requires
parent_allows-requires g c =
    let t = copy c.args.side (trees c.both_obey.new.self) in
    let p = c.args.path.now in
    end_has_parent t p (sym c.stands.ensures ∙ (led_there (whose_of c.args.side) t p _ c.in_ok-lead.ensures).leads_there)

pub renew-requires : goal.renew-requires
renew-requires g c =
    let e = c.args.side in
    let p = c.args.path.now in
    let t = copy e (trees c.both_obey.new.self) in
    let l = led_there (whose_of e) t p _ c.in_ok-lead.ensures in
    (missing, struck c.parent_allows.new.self e p (has_parent e p c.parent_allows.ensures.same (end_has_parent t p (sym c.stands.ensures ∙ l.leads_there))) l.short)

pub returns-clause-state : goal.returns-clause-state
returns-clause-state g c =
    let e = c.args.side in
    let p = c.args.path.now in
    let t = copy e (trees c.both_obey.new.self) in
    let l = led_there (whose_of e) t p _ c.in_ok-lead.ensures in
    let w = struck c.parent_allows.new.self e p (has_parent e p c.parent_allows.ensures.same (end_has_parent t p (sym c.stands.ensures ∙ l.leads_there))) l.short in
    let x = all_passed (λ t. present (at t p)) c.both_obey.ensures.same c.in_ok-both_obey.ensures.answer c.stands.ensures c.in_ok-lead.ensures c.in_ok-parent_allows.ensures.answer in
    c.renew.ensures.state missing w
    ∙ ap (λ s. edited s e p missing) (same_on c.both_obey.ensures.same c.parent_allows.ensures.same).trees_stay
    ∙ sym (ap (left (trees c.args.self.now)) (strike_done x))
