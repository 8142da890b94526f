use Rattle.std.proofs.Common.{◌∙◌, ap, Some}
use Rattle.model.specs.Faults.{or_else}
use Rattle.obeying.proofs.Walking.{or_is, marked, bare}
use Rattle.obeying.proofs.Test.leaf.Goals as goal

pub returns-then-entry-code : goal.returns-then-entry-code
returns-then-entry-code g c = λ x es more h n. c.or.ensures ∙ or_is c.args.before (Some c.args.at) ∙ ap (or_else c.args.before) (marked (g.R.Rulebook.meaning c.args.self.now.rules.now) c.args.class h (c.if-entry-code.true ∙ c.code.ensures) c.args.at).0

pub returns : goal.returns
returns g c = λ x es more h n. c.or-2.ensures ∙ or_is c.args.before c.own.result ∙ ap (or_else c.args.before) (bare (g.R.Rulebook.meaning c.args.self.now.rules.now) c.args.class h n c.code.ensures c.if-entry-code.false c.args.at c.own.ensures)
