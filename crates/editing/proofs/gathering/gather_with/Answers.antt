use Rattle.std.proofs.Common.{◌+◌, ◌<◌, ◌∷◌, ◌++◌, length, take, sym, refl, ap, ◌∙◌, arith, length-append}
use lib.Seq.{append_snoc}
use Rattle.std.proofs.lemmas.List.{take_more_set}
use Rattle.model.specs.Trees.{names}
use Rattle.stored.specs.Words.{below}
use Rattle.stored.specs.Lookup.{smaller}
use Rattle.area.specs.Views.{view}
use Rattle.area.specs.declared.regions.Region.TheVariants.{Tree, Names}
use Rattle.area.proofs.Laws.{also, view_length}
use Rattle.editing.specs.Splitting.{larger}
use Rattle.editing.proofs.Carried.{carried_between, near, few}
use Rattle.editing.proofs.Siblings.{names_with}
use Rattle.editing.proofs.Parting.{between_smaller, between_larger, parts_few, smaller_within}
use Rattle.editing.proofs.gathering.gather_with.Goals as goal

pub overflow_add-at : goal.overflow_add-at
overflow_add-at c = omega (arith, near _ _ c.requires.1)

pub list-k-requires : goal.list-k-requires
list-k-requires c =
    let h = c.requires.1 in
    let p = c.split-parts.ensures _ h in
    record {
      trees = tt;
      row = (_, between_smaller h p);
      room = omega (arith, smaller_within h p, few c.args.area.now (Tree c.args.table) tt h);
    }

pub set-requires : goal.set-requires
set-requires c =
    let h = c.requires.1 in
    let p = c.split-parts.ensures _ h in
    omega (arith, c.list-k.ensures.many _ (between_smaller h p), parts_few h p, few c.args.area.now (Tree c.args.table) tt h, c.list-k.ensures.only.same_limit)

pub overflow_add-k : goal.overflow_add-k
overflow_add-k c =
    let h = c.requires.1 in
    let p = c.split-parts.ensures _ h in
    omega (arith, c.list-k.ensures.many _ (between_smaller h p), parts_few h p, near c.args.area.now (Tree c.args.table) h)

pub list-requires : goal.list-requires
list-requires c =
    let h = c.requires.1 in
    let p = c.split-parts.ensures _ h in
    let tree = Tree c.args.table in
    let e = c.set.ensures.only.same tree refl ∙ c.list-k.ensures.only.same tree refl in
    record {
      trees = tt;
      row = (_, carried_between e (between_larger h p));
      room = omega (arith, c.list-k.ensures.many _ (between_smaller h p), parts_few h p, few c.args.area.now tree tt h, c.list-k.ensures.only.same_limit, c.set.ensures.only.same_limit);
    }

pub returns : goal.returns
returns c =
    let tree = Tree c.args.table in
    let e = c.set.ensures.only.same tree refl ∙ c.list-k.ensures.only.same tree refl in
    let k = c.args.added in
    record {
      many = λ s h.
          let p = c.split-parts.ensures s h in
          let f = below s.tree in
          omega (arith, c.list-k.ensures.many _ (between_smaller h p), c.list.ensures.many _ (carried_between e (between_larger h p)), ap length (names_with f k), length-append (names (smaller k f)) (k ∷ names (larger k f)));
      front = λ s h.
          let p = c.split-parts.ensures s h in
          let f = below s.tree in
          let i = c.list-k.result in
          let xs = view c.list-k.new.area Names in
          let room : i < length xs =
          omega (arith, c.list-k.ensures.many _ (between_smaller h p), parts_few h p, few c.args.area.now tree tt h, c.list-k.ensures.only.same_limit, view_length c.list-k.new.area Names) in
          c.list.ensures.front _ (carried_between e (between_larger h p))
          ∙ ap (λ ys. take (i + 1) ys ++ names (larger k f)) c.set.ensures.here
          ∙ ap (λ ys. ys ++ names (larger k f)) (take_more_set xs i k room)
          ∙ append_snoc (take i xs) k (names (larger k f))
          ∙ ap (λ ys. ys ++ k ∷ names (larger k f)) (c.list-k.ensures.front _ (between_smaller h p))
          ∙ sym (names_with f k);
      only = also (also c.list-k.ensures.only c.set.ensures.only refl) c.list.ensures.only refl;
    }
