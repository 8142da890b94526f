-- The first five steps, as the code names them.
use Rattle.model.specs.Trees.{Tree, mark}
use Rattle.model.specs.Round.{Outcome, outcome, Verdict, settled, below}
use Rattle.std.specs.Prelude.{Some, None, Option}
use Rattle.tables.specs.declared.Table.{Table}
use Rattle.tables.specs.declared.Table.TheVariants.{Archive, Field, Bench}
use Rattle.merging.specs.declared.types.Step.{Step}
use Rattle.merging.specs.declared.types.Step.TheVariants.{Agreed, TakeBench, TakeField, Mark, Down}

-- What a step makes of the field copy a and the bench copy b; the step down makes nothing yet.
abbrev pub made : Step → Tree → Tree → Outcome
made Agreed a b = outcome a a b
made TakeBench a b = outcome b b b
made TakeField a b = outcome a a a
made Mark a b = outcome mark a b
made Down a b = outcome mark a b

abbrev pub verdict : Step → Tree → Tree → Verdict
verdict Agreed a b = settled (made Agreed a b)
verdict TakeBench a b = settled (made TakeBench a b)
verdict TakeField a b = settled (made TakeField a b)
verdict Mark a b = settled (made Mark a b)
verdict Down a b = below

-- The table whose tree a step puts into another, or none where it puts a mark.
abbrev pub source_of : Step → Table → Option Table
source_of Agreed Archive = Some Field
source_of Agreed Field = Some Field
source_of Agreed Bench = Some Bench
source_of TakeBench t = Some Bench
source_of TakeField t = Some Field
source_of Mark Archive = None
source_of Mark Field = Some Field
source_of Mark Bench = Some Bench
source_of Down Archive = None
source_of Down Field = Some Field
source_of Down Bench = Some Bench

-- That tree.
abbrev pub brought : Option Table → (Table → Tree) → Tree
brought None ts = mark
brought (Some t) ts = ts t
