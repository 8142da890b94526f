use Rattle.std.proofs.Common.{◌-◌, [], ◌∷◌}
use Rattle.model.specs.Trees.{Forest, names}
use Rattle.area.specs.Views.{view, Only}
use Rattle.area.specs.declared.regions.Region.TheVariants.{New, Names}
use Rattle.merging.specs.Outputs.{Listing}
use Rattle.merging.proofs.Gathering.{Gathering}
use Rattle.merging.proofs.closing.gather.Given as goal

abbrev pub invariant-loop-pos : goal.invariant-loop-pos
invariant-loop-pos l =
    ((f : Forest) → Listing (view l.initial.area (New l.t)) l.at l.end f → Gathering (view l.area (New l.t)) (view l.area Names) (names f) l.end l.pos l.count)
    × Only (Names ∷ []) l.initial.area l.area

abbrev pub decreases-loop-pos : goal.decreases-loop-pos
decreases-loop-pos l = l.end - l.pos
