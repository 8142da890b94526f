use Rattle.std.proofs.Common.{vec_len, sym, ap, ◌∙◌, subst, rules}
use Rattle.area.specs.Layout.{limit_of}
use Rattle.ledger.specs.Ledger.{stands, answers, held}
use Rattle.ledger.specs.Histories.{CopiesObey}
use Rattle.ledger.proofs.Histories.{copies_obey, rounds_are_marked_at_conflicts, rounds_are_safe, no_rival_does_more}
use Rattle.service.specs.Service.{of_file}
use Rattle.history.proofs.Runs.{goes_on, ends}
use Rattle.history.proofs.replay.Goals as goal

pub returns-in_err-push : goal.returns-in_err-push
returns-in_err-push g c =
    let m = g.R.Rulebook.meaning c.args.rules.now in
    let l = limit_of (vec_len c.args.words) in
    let calls = c.args.calls.now in
    record {
      stands_as_the_ledger_says = search rules;
      answers_as_the_ledger_says = search rules;
      both_copies_obey = search rules;
      rounds_are_marked_at_conflicts = rounds_are_marked_at_conflicts m l calls;
      rounds_are_safe = rounds_are_safe m l calls;
      no_rival_does_more = no_rival_does_more m l calls;
    }

pub loop-call-preserved : goal.loop-call-preserved
loop-call-preserved g c =
    let s = c.take-next.ensures in
    (goes_on _ _ _ c.take-next.result.1 _ c.loop-call.invariant.0 c.loop-call-test.true c.loop-call.invariant.1 s.state s.answer c.in_ok-push.ensures.items, s.limit ∙ c.loop-call.invariant.1)

pub returns : goal.returns
returns g c =
    let m = g.R.Rulebook.meaning c.args.rules.now in
    let l = limit_of (vec_len c.args.words) in
    let calls = c.args.calls.now in
    let e = ends c.loop-call.invariant.0 c.loop-call-test.false in
    let f = c.new.ensures in
    let stood = e.0 ∙ ap (λ k. stands m k (of_file c.new.result) calls) f.limit ∙ ap (λ s. stands m l s calls) f.state in
    record {
      stands_as_the_ledger_says = stood;
      answers_as_the_ledger_says = e.1 ∙ ap (λ k. answers m k (of_file c.new.result) calls) f.limit ∙ ap (λ s. answers m l s calls) f.state;
      both_copies_obey = subst (λ s. CopiesObey m (held s)) (sym stood) (copies_obey m l calls);
      rounds_are_marked_at_conflicts = rounds_are_marked_at_conflicts m l calls;
      rounds_are_safe = rounds_are_safe m l calls;
      no_rival_does_more = no_rival_does_more m l calls;
    }
