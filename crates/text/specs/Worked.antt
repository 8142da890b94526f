-- The text form of a few trees and refusals.
use Rattle.std.specs.Prelude.{◌≡◌, codes}
use Rattle.model.specs.Trees.{missing, mark, node, empty, child}
use Rattle.refusals.specs.declared.Reason.TheVariants.{Short, Output}
use Rattle.refusals.specs.declared.Whose.TheVariants.{Archive, Nobody}
use Rattle.refusals.specs.Numbers.{refused}
use Rattle.text.specs.Text.{text, line}

pub record WorkedTexts : Type 0 where
  pub nothing : text missing ≡ codes "-"
  pub a_mark : text mark ≡ codes "!"
  pub bare_root : text (node empty) ≡ codes "{}"
  pub names : text (node (child 2 (node (child 5 (node empty) (child 7 (node empty) empty))) empty)) ≡ codes "{2:{5,7}}"
  pub marked :
      text (node (child 1 (node (child 9001 (node empty) empty)) (child 2 (node (child 7 mark empty)) empty)))
      ≡ codes "{1:{9001},2:{7:!}}"
  pub first_refusal : line (refused Short Archive 0) ≡ codes "refused 1 layer 1 whose 1 place 0"
  pub last_refusal : line (refused Output Nobody 4096) ≡ codes "refused 11 layer 3 whose 0 place 4096"
