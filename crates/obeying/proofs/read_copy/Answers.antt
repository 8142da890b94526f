use Rattle.std.proofs.Common.{subst}
use Rattle.records.specs.Files.{Fits, EndsWith}
use Rattle.records.specs.declared.Wanted.{Wanted}
use Rattle.records.specs.Views.{tree_of}
use Rattle.obeying.proofs.Views.{obeys}
use Rattle.obeying.proofs.read_copy.Goals as goal

pub returns-clause-obeys : goal.returns-clause-obeys
returns-clause-obeys g c =
    let f = subst (λ (w : Wanted). Fits w (tree_of c.in_ok-view.view) × EndsWith c.args.bytes.now (tree_of c.in_ok-view.view) w.kind) c.copy.ensures c.in_ok-view.ensures.faithful in
    (f.0, f.1, obeys (g.R.Rulebook.meaning c.args.rules.now) c.args.class c.args.whose (tree_of c.in_ok-view.view) c.in_ok-hold.ensures)
