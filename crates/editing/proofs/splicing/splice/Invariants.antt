use Rattle.std.proofs.Common.{◌≡◌, [], ◌∷◌}
use Rattle.model.specs.Trees.{Tree as Trees, at, nodes}
use Rattle.area.specs.Views.{view, Only}
use Rattle.area.specs.declared.regions.Region.TheVariants.{Tree, New}
use Rattle.editing.specs.Splicing.{Given}
use Rattle.editing.proofs.Descent.{Due, target}
use Rattle.editing.proofs.splicing.splice.Given as goal

abbrev pub invariant-loop-name : goal.invariant-loop-name
invariant-loop-name l =
    ((t u : Trees) (s : Given l.initial.area l.table l.count l.path l.source l.grown t u) (g : l.gone ≡ nodes (at t l.path)) → Due (view l.initial.area (Tree l.table)) (view l.area (New l.table)) l.count l.path u (target s l.gone g) l.gone l.name-index l.at)
    × Only (New l.table ∷ []) l.initial.area l.area
