-- The report of three held trees.
use Rattle.std.specs.Prelude.{ℕ, List}
use Rattle.model.specs.Round.{outcome}
use Rattle.stored.specs.Nodes.{tree_held}
use Rattle.text.specs.Report.{report}
use Rattle.text.specs.declared.Report.{Report}

abbrev pub reported : Report → List ℕ
reported r = report (outcome (tree_held r.archive) (tree_held r.field) (tree_held r.bench))
