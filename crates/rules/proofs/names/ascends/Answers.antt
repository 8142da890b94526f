use Rattle.std.proofs.Common.{ltb, rules, tests}
use Rattle.std.proofs.lemmas.Fn.{always_returns_same}
use Rattle.rules.proofs.Walks.{ascending_told}
use Rattle.rules.proofs.names.ascends.Goals as goal

pub returns : goal.returns
returns c =
    ascending_told c.args.names.now c.is_sorted_by.result (c.is_sorted_by.ensures.cases ltb (always_returns_same _ _ _ (λ a r f k. search (rules, tests))))
