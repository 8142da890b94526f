use Rattle.std.proofs.Common.{◌++◌, length, sym, refl, ap, ◌∙◌, arith, length-append}
use Rattle.model.specs.Trees.{names}
use Rattle.stored.specs.Words.{below}
use Rattle.stored.specs.Lookup.{smaller}
use Rattle.stored.proofs.Lookup.{ascends_below}
use Rattle.area.specs.declared.regions.Region.TheVariants.{Tree}
use Rattle.area.proofs.Laws.{also}
use Rattle.editing.specs.Splitting.{larger}
use Rattle.editing.proofs.Carried.{carried_between, near, few}
use Rattle.editing.proofs.Siblings.{names_without}
use Rattle.editing.proofs.Parting.{between_smaller, between_larger, parts_few, smaller_within}
use Rattle.editing.proofs.gathering.gather_without.Goals as goal

pub overflow_add-at : goal.overflow_add-at
overflow_add-at c = omega (arith, near _ _ c.requires.1)

pub list-k-requires : goal.list-k-requires
list-k-requires c =
    let h = c.requires.1 in
    let p = c.split-parts.ensures _ h in
    record {
      trees = tt;
      row = (_, between_smaller h p);
      room = omega (arith, smaller_within h p, few c.args.area.now (Tree c.args.table) tt h);
    }

pub list-requires : goal.list-requires
list-requires c =
    let h = c.requires.1 in
    let p = c.split-parts.ensures _ h in
    let tree = Tree c.args.table in
    record {
      trees = tt;
      row = (_, carried_between (c.list-k.ensures.only.same tree refl) (between_larger h p));
      room = omega (arith, c.list-k.ensures.many _ (between_smaller h p), parts_few h p, few c.args.area.now tree tt h, c.list-k.ensures.only.same_limit);
    }

pub returns : goal.returns
returns c =
    let e = c.list-k.ensures.only.same (Tree c.args.table) refl in
    let k = c.args.struck in
    record {
      many = λ s h.
          let p = c.split-parts.ensures s h in
          let f = below s.tree in
          let w = names_without f k (ascends_below s.tree s.well_formed) in
          omega (arith, c.list-k.ensures.many _ (between_smaller h p), c.list.ensures.many _ (carried_between e (between_larger h p)), ap length w, length-append (names (smaller k f)) (names (larger k f)));
      front = λ s h.
          let p = c.split-parts.ensures s h in
          let f = below s.tree in
          c.list.ensures.front _ (carried_between e (between_larger h p))
          ∙ ap (λ ys. ys ++ names (larger k f)) (c.list-k.ensures.front _ (between_smaller h p))
          ∙ sym (names_without f k (ascends_below s.tree s.well_formed));
      only = also c.list-k.ensures.only c.list.ensures.only refl;
    }
