use Rattle.std.proofs.Common.{[], ◌∷◌}
use Rattle.model.specs.Round.{Outcome}
use Rattle.area.specs.Views.{Only}
use Rattle.tables.specs.declared.Table.TheVariants.{Archive, Field, Bench}
use Rattle.area.specs.declared.regions.Region.TheVariants.{New, Stack, Names}
use Rattle.merging.specs.Going.{Busy, State, work}
use Rattle.merging.proofs.finish.Given as goal

abbrev pub invariant-loop-walk : goal.invariant-loop-walk
invariant-loop-walk g l =
    let m = g.R.Rulebook.meaning l.rules in
    ((target : Outcome) → Busy m target l.initial.area l.initial.walk → State m target l.area l.walk)
    × Only (New Archive ∷ New Field ∷ New Bench ∷ Stack ∷ Names ∷ []) l.initial.area l.area

abbrev pub decreases-loop-walk : goal.decreases-loop-walk
decreases-loop-walk g l = work l.area l.walk
