use Rattle.std.proofs.Common.{◌∙◌, leb, rules, tests}
use Rattle.std.proofs.lemmas.Iterator.{YieldsList-from_slice}
use Rattle.std.proofs.lemmas.Iterator.Search.{all_from_yields_List}
use Rattle.rules.proofs.Walks.{all_up_to}
use Rattle.rules.proofs.names.no_name_above.Goals as goal

pub returns : goal.returns
returns c =
    all_from_yields_List (λ k. leb k c.args.last) _ _ _ c.all.ensures.ran (YieldsList-from_slice c.args.names.now cc) (λ x b q k. search (rules, tests))
    ∙ all_up_to c.args.last c.args.names.now
