use Rattle.std.proofs.Common.{◌+◌, ◌-◌, ◌*◌, ◌<◌, [], ◌++◌, length, take, drop, refl, ap, ◌∙◌, arith, length-drop}
use lib.Seq.{paste}
use Rattle.stored.specs.Words.{emit}
use Rattle.area.specs.Views.{view}
use Rattle.area.specs.declared.regions.Region.TheVariants.{Tree, New}
use Rattle.area.proofs.Laws.{none, again, view_length, limit_small}
use Rattle.editing.proofs.Carried.{carried, carried_holds, short}
use Rattle.editing.proofs.Grafts.{held_long, offer_long, carried_offer}
use Rattle.editing.proofs.Descent.{sets_off, stands, few_gone, steps, lands, new_count, whole}
use Rattle.editing.proofs.splicing.splice.Goals as goal

pub loop-name-init : goal.loop-name-init
loop-name-init c = (λ t u s g. sets_off s c.nodes_at-gone.result g (view c.args.area.now (New c.args.table)), none _ _)

pub descend-at-requires : goal.descend-at-requires
descend-at-requires c =
    let s = c.requires.given.2 in
    let a = c.args.area.now in
    let g = c.nodes_at-gone.ensures _ (carried_holds c.part.ensures.words s.holds) s.unmarked in
    let d = c.loop-name.invariant.0 _ _ s g in
    let l : c.loop-name.name-index < length c.args.path.now = omega arith in
    let e = c.loop-name.invariant.1.same (Tree c.args.table) refl in
    (_, carried e (stands d l), few_gone d _ s.offer.count, omega (arith, offer_long s.offer, short a c.args.source))

pub loop-name-preserved : goal.loop-name-preserved
loop-name-preserved c = (
  λ t u s g.
      let d = c.loop-name.invariant.0 t u s g in
      let l : c.loop-name.name-index < length c.args.path.now = omega arith in
      let h = carried (c.loop-name.invariant.1.same (Tree c.args.table) refl) (stands d l) in
      steps d _ _ _ _ l refl s.offer.count (c.descend-at.ensures.end _ h) (c.descend-at.ensures.words _ h d.unmarked),
  again c.loop-name.invariant.1 c.descend-at.ensures.only,
)

pub plant-requires : goal.plant-requires
plant-requires c =
    let s = c.requires.given.2 in
    let g = c.nodes_at-gone.ensures _ (carried_holds c.part.ensures.words s.holds) s.unmarked in
    let d = lands (c.loop-name.invariant.0 _ _ s g) (omega arith) in
    record {
      offer = (_, carried_offer (c.loop-name.invariant.1.same c.args.source c.requires.apart) s.offer);
      room = omega (arith, d.within, new_count s _ g, s.fits, c.loop-name.invariant.1.same_limit);
    }

pub overflow_add-behind : goal.overflow_add-behind
overflow_add-behind c =
    let s = c.requires.given.2 in
    let g = c.nodes_at-gone.ensures _ (carried_holds c.part.ensures.words s.holds) s.unmarked in
    let d = lands (c.loop-name.invariant.0 _ _ s g) (omega arith) in
    omega (arith, d.within)

pub overflow_mul-behind : goal.overflow_mul-behind
overflow_mul-behind c =
    let s = c.requires.given.2 in
    let g = c.nodes_at-gone.ensures _ (carried_holds c.part.ensures.words s.holds) s.unmarked in
    let d = lands (c.loop-name.invariant.0 _ _ s g) (omega arith) in
    omega (arith, d.within, s.holds.count, s.holds.few)

pub overflow_add-at : goal.overflow_add-at
overflow_add-at c =
    let s = c.requires.given.2 in
    let g = c.nodes_at-gone.ensures _ (carried_holds c.part.ensures.words s.holds) s.unmarked in
    let d = lands (c.loop-name.invariant.0 _ _ s g) (omega arith) in
    omega (arith, d.within, new_count s _ g, s.fits, limit_small c.args.area.now)

pub overflow_mul-at : goal.overflow_mul-at
overflow_mul-at c =
    let s = c.requires.given.2 in
    let g = c.nodes_at-gone.ensures _ (carried_holds c.part.ensures.words s.holds) s.unmarked in
    let d = lands (c.loop-name.invariant.0 _ _ s g) (omega arith) in
    omega (arith, d.within, new_count s _ g, s.fits, limit_small c.args.area.now)

pub overflow_sub-count : goal.overflow_sub-count
overflow_sub-count c =
    let s = c.requires.given.2 in
    let g = c.nodes_at-gone.ensures _ (carried_holds c.part.ensures.words s.holds) s.unmarked in
    let d = lands (c.loop-name.invariant.0 _ _ s g) (omega arith) in
    omega (arith, d.within)

pub overflow_mul-count : goal.overflow_mul-count
overflow_mul-count c = let s = c.requires.given.2 in omega (arith, s.holds.count, s.holds.few)

pub copy-requires : goal.copy-requires
copy-requires c =
    let s = c.requires.given.2 in
    let a = c.args.area.now in
    let g = c.nodes_at-gone.ensures _ (carried_holds c.part.ensures.words s.holds) s.unmarked in
    let d = lands (c.loop-name.invariant.0 _ _ s g) (omega arith) in
    let same = (again c.loop-name.invariant.1 c.plant.ensures.only).same_limit in
    record {
      source = omega (arith, d.within, held_long s.holds, view_length a (Tree c.args.table));
      target = omega (arith, d.within, new_count s _ g, s.fits);
    }

pub overflow_add-result : goal.overflow_add-result
overflow_add-result c =
    let s = c.requires.given.2 in
    omega (arith, s.holds.count, s.holds.few, offer_long s.offer, short c.args.area.now c.args.source)

pub overflow_sub-result : goal.overflow_sub-result
overflow_sub-result c =
    let s = c.requires.given.2 in
    let g = c.nodes_at-gone.ensures _ (carried_holds c.part.ensures.words s.holds) s.unmarked in
    omega (arith, new_count s _ g)

pub returns : goal.returns
returns c =
    let a = c.args.area.now in
    let tree = Tree c.args.table in
    let new = New c.args.table in
    let until = again c.loop-name.invariant.1 c.plant.ensures.only in
    record {
      number = λ t u s.
          let g = c.nodes_at-gone.ensures t (carried_holds c.part.ensures.words s.holds) s.unmarked in
          omega (arith, new_count s _ g);
      words = λ t u s.
          let g = c.nodes_at-gone.ensures t (carried_holds c.part.ensures.words s.holds) s.unmarked in
          let d = lands (c.loop-name.invariant.0 t u s g) (omega arith) in
          let at = c.loop-name.at in
          let behind = at + c.nodes_at-gone.result in
          let n = 3 * (c.args.count - behind) in
          let i = 3 * (at + c.args.grown) in
          let r = 3 * (c.args.count + c.args.grown - c.nodes_at-gone.result) in
          let o = carried_offer (c.loop-name.invariant.1.same c.args.source c.requires.apart) s.offer in
          let size = view_length a tree in
          ap (take r) (c.copy.ensures.here ∙ ap (λ ws. paste (view c.plant.new.area new) i (drop (3 * behind) ws) n) (until.same tree refl))
          ∙ whole s _ g d (view c.plant.new.area new) i n r
          (omega (arith, d.within, held_long s.holds, view_length c.loop-name.area new, c.loop-name.invariant.1.same_limit))
          refl
          refl
          refl
          (omega (arith, d.within, new_count s _ g, s.fits, view_length c.plant.new.area new, until.same_limit))
          (rw length-drop (omega (arith, held_long s.holds)))
          (c.plant.ensures.words u o ∙ ap (λ k. take (3 * at) (view c.loop-name.area new) ++ emit u k []) (d.named _ (omega (arith, s.some_name))));
      only = again until c.copy.ensures.only;
    }
