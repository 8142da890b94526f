-- The line of a refusal and a report on examples.
use Rattle.std.specs.Prelude.{◌≡◌, ℕ, codes}
use Rattle.model.specs.Trees.{Tree, mark, node, empty, child}
use Rattle.model.specs.Round.{outcome}
use Rattle.refusals.specs.declared.Reason.TheVariants.{Short}
use Rattle.refusals.specs.declared.Whose.TheVariants.{Archive}
use Rattle.refusals.specs.Numbers.{refused}
use Rattle.text.specs.Text.{refusal_line}
use Rattle.text.specs.Report.{report}

-- 9001 under 1, and a tree under 2 and 7.
abbrev pub plate : Tree → Tree
plate t = node (child 1 (node (child 9001 (node empty) empty)) (child 2 (node (child 7 t empty)) empty))

-- Three names with nothing below them.
abbrev pub three : ℕ → ℕ → ℕ → Tree
three k l m = node (child k (node empty) (child l (node empty) (child m (node empty) empty)))

pub record WorkedReports : Type 0 where
  pub first_refusal_line : refusal_line (refused Short Archive 0) ≡ codes "refused 1 layer 1 whose 1 place 0\n"
  pub a_report :
      report (outcome (plate mark) (plate (three 10 11 12)) (plate (three 9 10 11)))
      ≡ codes "marks 1\narchive {1:{9001},2:{7:!}}\nfield {1:{9001},2:{7:{10,11,12}}}\nbench {1:{9001},2:{7:{9,10,11}}}\n"
