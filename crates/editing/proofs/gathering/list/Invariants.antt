use Rattle.std.proofs.Common.{◌+◌, ◌-◌, ◌*◌, ◌≤◌, [], ◌∷◌, ◌++◌, length, take}
use Rattle.model.specs.Trees.{Forest, names}
use Rattle.stored.specs.Lookup.{Between}
use Rattle.stored.proofs.Rows.{Along}
use Rattle.area.specs.Views.{view, limit, Only}
use Rattle.area.specs.declared.regions.Region.TheVariants.{Names}
use Rattle.editing.proofs.Listing.{Listed}
use Rattle.editing.proofs.gathering.list.Given as goal

abbrev pub invariant-loop-at : goal.invariant-loop-at
invariant-loop-at l =
    (l.i + (l.end - l.at) ≤ 2 * limit l.initial.area)
    × ((f : Forest) (b : Between (view l.initial.area l.of) l.from l.end f) → Along (view l.area l.of) b.rest l.end l.at (Listed l.i (view l.area Names) (take l.first (view l.initial.area Names) ++ names f) (l.first + length (names f))))
    × Only (Names ∷ []) l.initial.area l.area

abbrev pub decreases-loop-at : goal.decreases-loop-at
decreases-loop-at l = l.end - l.at
