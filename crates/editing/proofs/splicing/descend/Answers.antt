use Rattle.std.proofs.Common.{◌≡◌, ◌+◌, ◌-◌, ◌*◌, [], ◌∷◌, ◌++◌, take, set, refl, ap, ◌∙◌, arith}
use Rattle.model.specs.Trees.{nodes}
use Rattle.stored.specs.Words.{tree_word, emits, below}
use Rattle.stored.specs.Lookup.{smaller}
use Rattle.stored.proofs.Places.{node_at}
use Rattle.area.specs.Views.{view}
use Rattle.area.specs.declared.regions.Region.TheVariants.{Tree, New}
use Rattle.area.proofs.Laws.{again, view_length}
use Rattle.editing.proofs.Carried.{near, within_limit}
use Rattle.editing.proofs.Parting.{smaller_within}
use Rattle.editing.proofs.Grafts.{counted_anew}
use Rattle.editing.proofs.splicing.descend.Goals as goal

pub overflow_sub-parts : goal.overflow_sub-parts
overflow_sub-parts c = omega (arith, (c.split-parts.ensures _ c.requires.1).up_to)

pub overflow_mul-at : goal.overflow_mul-at
overflow_mul-at c = omega (arith, near c.args.area.now (Tree c.args.table) c.requires.1)

pub overflow_mul-at-2 : goal.overflow_mul-at-2
overflow_mul-at-2 c = omega (arith, near c.args.area.now (Tree c.args.table) c.requires.1)

pub overflow_mul-parts : goal.overflow_mul-parts
overflow_mul-parts c =
    let p = c.split-parts.ensures _ c.requires.1 in
    omega (arith, near c.args.area.now (Tree c.args.table) c.requires.1, smaller_within c.requires.1 p)

pub copy-requires : goal.copy-requires
copy-requires c =
    let p = c.split-parts.ensures _ c.requires.1 in
    let w = smaller_within c.requires.1 p in
    let l = within_limit c.args.area.now (Tree c.args.table) refl c.requires.1 in
    record { source = omega (arith, p.up_to); target = omega (arith, p.up_to) }

pub overflow_mul-at-3 : goal.overflow_mul-at-3
overflow_mul-at-3 c = omega (arith, near c.args.area.now (Tree c.args.table) c.requires.1)

pub overflow_add-at : goal.overflow_add-at
overflow_add-at c = omega (arith, near c.args.area.now (Tree c.args.table) c.requires.1)

pub overflow_add-parts : goal.overflow_add-parts
overflow_add-parts c =
    let p = c.split-parts.ensures _ c.requires.1 in
    omega (arith, near c.args.area.now (Tree c.args.table) c.requires.1, p.end, c.requires.3)

pub overflow_cast-parts : goal.overflow_cast-parts
overflow_cast-parts c =
    let p = c.split-parts.ensures _ c.requires.1 in
    omega (arith, near c.args.area.now (Tree c.args.table) c.requires.1, p.end, c.requires.3)

pub set-requires : goal.set-requires
set-requires c =
    let p = c.split-parts.ensures _ c.requires.1 in
    let l = within_limit c.args.area.now (Tree c.args.table) refl c.requires.1 in
    omega (arith, c.copy.ensures.only.same_limit, (node_at c.requires.1).room, view_length c.args.area.now (Tree c.args.table))

pub returns : goal.returns
returns c =
    let a = c.args.area.now in
    let tree = Tree c.args.table in
    let new = New c.args.table in
    let at = c.args.at in
    record {
      end = λ s h. (c.split-parts.ensures s h).up_to;
      words = λ s h u.
          let p = c.split-parts.ensures s h in
          let w = smaller_within h p in
          let l = within_limit a tree refl h in
          let size : c.split-parts.result.end - at + c.args.grown - c.args.gone ≡ nodes s.tree + c.args.grown - c.args.gone = omega (arith, p.end) in
          ap (take _) (c.set.ensures.here ∙ ap (λ xs. set xs (3 * at + 1) (c.split-parts.result.end - at + c.args.grown - c.args.gone)) c.copy.ensures.here)
          ∙ counted_anew (view a new) c.args.name _ _ _ h u (omega (arith, p.up_to)) (omega (arith, p.up_to)) (omega (arith, view_length a new)) (omega (arith, view_length a tree, p.up_to))
          ∙ ap (λ y. take (3 * at) (view a new) ++ s.name ∷ y ∷ tree_word ∷ emits (smaller c.args.name (below s.tree)) []) size;
      only = again c.copy.ensures.only c.set.ensures.only;
    }
