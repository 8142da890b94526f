use Rattle.std.proofs.Common.{Err, sym, ap, ◌∙◌}
use Rattle.std.proofs.lemmas.Result.{err_from_is_err_and}
use Rattle.records.specs.Views.{tree_of}
use Rattle.ledger.specs.Answers.{whose_of, copy, parent_stands, last_name, left, told}
use Rattle.service.specs.declared.types.Change.TheVariants.{Put}
use Rattle.service.specs.Service.{trees, limit}
use Rattle.service.specs.Edits.{changed, replaced, Replaces}
use Rattle.service.proofs.Files.{same_on}
use Rattle.service.proofs.Answering.{Passed, led_there, all_passed, replaces, replaced_same, put_unread, put_read}
use Rattle.service.proofs.types.File.put.Given.{Over}
use Rattle.service.proofs.types.File.put.Goals.{After-class_at-class, In_ok-view}
use Rattle.service.proofs.types.File.put.Goals as goal

tested : (g : Over) (c : After-class_at-class g)
    → Passed (g.R.Rulebook.meaning c.args.rules.now) (trees c.args.self.now) c.args.side c.args.path.now
    (parent_stands (copy c.args.side (trees c.args.self.now)) c.args.path.now) (changed Put (last_name c.args.path.now))
tested g c =
    all_passed (λ t. parent_stands t c.args.path.now) c.both_obey.ensures.same c.in_ok-both_obey.ensures.answer c.has_parent.ensures c.in_ok-lead.ensures
    c.in_ok-parent_allows.ensures.answer

pub returns-in_err-view : goal.returns-in_err-view
returns-in_err-view g c =
    let x = tested g (goal.at.returns-in_err-view g c).After-class_at-class in
    let r = err_from_is_err_and c.from_residual-in_err-view.result c.from_residual-in_err-view.ensures.1 in
    let same = same_on c.both_obey.ensures.same c.parent_allows.ensures.same in
    let is = put_unread x (limit c.args.self.now) c.args.bytes.now _ c.class_at-class.ensures (sym c.in_err-view.ensures.answer) in
    record { answer = r.1 ∙ ap Err r.2 ∙ sym (ap told is); state = same.trees_stay ∙ sym (ap (left (trees c.args.self.now)) is); limit = same.limit_stays }

-- The tree that was read can be set.
ready : (g : Over) (c : In_ok-view g) → Replaces c.parent_allows.new.self c.args.side c.args.path.now (tree_of c.in_ok-view.view)
ready g c =
    let t = copy c.args.side (trees c.both_obey.new.self) in
    let l = led_there (whose_of c.args.side) t c.args.path.now _ c.in_ok-lead.ensures in
    replaces c.parent_allows.ensures.same (sym c.has_parent.ensures ∙ l.leads_there) c.in_ok-view.ensures.obeys.0

pub replace-requires : goal.replace-requires
replace-requires g c = ready g (goal.at.replace-requires g c).In_ok-view

pub returns : goal.returns
returns g c =
    let e = c.args.side in
    let p = c.args.path.now in
    let u = tree_of c.in_ok-view.view in
    let same = same_on c.both_obey.ensures.same c.parent_allows.ensures.same in
    let is = replaced_same e p u same
    ∙ sym (put_read (tested g (goal.at.returns g c).After-class_at-class) (limit c.args.self.now) c.args.bytes.now _ c.class_at-class.ensures (sym c.in_ok-view.ensures.answer)) in
    record {
      answer = c.replace.ensures.answer ∙ ap told is;
      state = c.replace.ensures.state
          ∙ ap (λ s. left s (replaced (limit c.parent_allows.new.self) (trees c.parent_allows.new.self) e p u)) same.trees_stay
          ∙ ap (left (trees c.args.self.now)) is;
      limit = c.replace.ensures.limit ∙ same.limit_stays;
    }
