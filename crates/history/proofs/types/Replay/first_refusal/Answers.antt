use Rattle.std.proofs.Common.{rules, vec_items, ap, ◌∙◌, subst}
use Rattle.std.specs.Slice.Iter.{iter_rest}
use Rattle.std.specs.Iterator.Runs.{ItemsMapTo}
use Rattle.history.proofs.Runs.{finds}
use Rattle.history.proofs.types.Replay.first_refusal.Goals as goal

pub returns : goal.returns
returns c =
    let run = c.find_map.ensures.runs in
    finds run.0 (vec_items c.args.self.now.answers)
    (subst (ItemsMapTo run.0 (λ y. y.now)) (ap iter_rest run.1 ∙ c.iter.ensures.rest ∙ c.deref.ensures.value) (c.iter.ensures.runs run.0 run.0.seen))
    _ _ (λ x r h k. search rules) c.find_map.result run.2
