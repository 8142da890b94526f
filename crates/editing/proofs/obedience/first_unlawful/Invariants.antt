use Rattle.std.proofs.Common.{◌≡◌, ◌+◌, ◌-◌, ◌*◌, ◌≤◌, [], ◌∷◌, Some}
use Rattle.model.specs.Trees.{Tree as Trees, marks}
use Rattle.model.specs.Faults.{first_fault}
use Rattle.stored.specs.Words.{Holds}
use Rattle.area.specs.Views.{view, Only}
use Rattle.area.specs.declared.regions.Region.TheVariants.{Tree, Stack, Names}
use Rattle.editing.proofs.Walks.{Walking}
use Rattle.editing.proofs.obedience.first_unlawful.Given as goal

-- Each open node has been passed, so that the stack has no more of them than the walk has passed.
abbrev pub invariant-loop-top : goal.invariant-loop-top
invariant-loop-top g l =
    let m = g.R.Rulebook.meaning l.rules in
    (l.full ≤ l.top + 2 * l.at)
    × (l.top ≤ l.full)
    × ((t : Trees) (h : Holds (view l.initial.area (Tree l.table)) l.count t) → marks t ≡ 0 → Walking m (view l.area (Tree l.table)) h.begins.rest l.count (first_fault m (Some 0) t) (view l.area Stack) l.top l.at)
    × Only (Names ∷ Stack ∷ []) l.initial.area l.area

abbrev pub decreases-loop-top : goal.decreases-loop-top
decreases-loop-top g l = 3 * (l.count - l.at) + (l.full - l.top)
