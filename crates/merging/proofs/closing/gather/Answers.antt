use Rattle.std.proofs.Common.{refl, arith}
use Rattle.area.specs.Views.{view}
use Rattle.area.specs.declared.regions.Region.TheVariants.{New, Names}
use Rattle.area.proofs.Laws.{none, also, view_length, limit_small}
use Rattle.merging.proofs.Gathering.{begun, ahead, gathered, sized, taken}
use Rattle.merging.proofs.closing.gather.Goals as goal

pub overflow_add-pos : goal.overflow_add-pos
overflow_add-pos c =
    let a = c.args.area.now in
    omega (arith, c.requires.1.room, c.requires.1.ends, view_length a (New c.args.t), limit_small a)

pub loop-pos-init : goal.loop-pos-init
loop-pos-init c =
    let a = c.args.area.now in
    ((λ f h. begun (view a Names) h (omega (arith, view_length a (New c.args.t), view_length a Names))), none _ _)

pub overflow_mul-pos : goal.overflow_mul-pos
overflow_mul-pos c =
    let a = c.args.area.now in
    omega (arith, c.requires.1.room, view_length a (New c.args.t), limit_small a, c.loop-pos.invariant.1.same_limit)

pub get-name-requires : goal.get-name-requires
get-name-requires c =
    let a = c.args.area.now in
    omega (arith, c.requires.1.room, view_length a (New c.args.t), limit_small a, c.loop-pos.invariant.1.same_limit)

pub set-requires : goal.set-requires
set-requires c =
    let w = ahead (c.loop-pos.invariant.0 _ c.requires.1) c.loop-pos-test.true in
    omega (arith, w.spare, view_length c.loop-pos.area Names)

pub overflow_add-count : goal.overflow_add-count
overflow_add-count c =
    let w = ahead (c.loop-pos.invariant.0 _ c.requires.1) c.loop-pos-test.true in
    let a = c.loop-pos.area in
    omega (arith, w.spare, view_length a Names, limit_small a)

pub overflow_mul-pos-in-loop-pos : goal.overflow_mul-pos-in-loop-pos
overflow_mul-pos-in-loop-pos c =
    let a = c.args.area.now in
    omega (arith, c.requires.1.room, view_length a (New c.args.t), limit_small a, c.loop-pos.invariant.1.same_limit)

pub overflow_add-pos-in-loop-pos : goal.overflow_add-pos-in-loop-pos
overflow_add-pos-in-loop-pos c =
    let a = c.args.area.now in
    omega (arith, c.requires.1.room, view_length a (New c.args.t), limit_small a, c.loop-pos.invariant.1.same_limit)

pub get-requires : goal.get-requires
get-requires c =
    let a = c.args.area.now in
    omega (arith, c.requires.1.room, view_length a (New c.args.t), limit_small a, c.loop-pos.invariant.1.same_limit, c.set.ensures.only.same_limit)

pub overflow_add-pos-in-loop-pos-2 : goal.overflow_add-pos-in-loop-pos-2
overflow_add-pos-in-loop-pos-2 c =
    let a = c.args.area.now in
    let w = ahead (c.loop-pos.invariant.0 _ c.requires.1) c.loop-pos-test.true in
    let s = sized w _ _ c.get.ensures (c.set.ensures.only.same (New c.args.t) refl) in
    omega (arith, s, w.in_time, c.requires.1.room, view_length a (New c.args.t), limit_small a)

pub loop-pos-smaller : goal.loop-pos-smaller
loop-pos-smaller c =
    let w = ahead (c.loop-pos.invariant.0 _ c.requires.1) c.loop-pos-test.true in
    let s = sized w _ _ c.get.ensures (c.set.ensures.only.same (New c.args.t) refl) in
    omega (arith, s, w.in_time, w.some)

pub loop-pos-preserved : goal.loop-pos-preserved
loop-pos-preserved c = (
  (λ f h.
      taken (ahead (c.loop-pos.invariant.0 f h) c.loop-pos-test.true) _ _ _ _ c.get-name.ensures c.get.ensures
      (c.set.ensures.only.same (New c.args.t) refl) c.set.ensures.here),
  also c.loop-pos.invariant.1 c.set.ensures.only refl,
)

pub returns : goal.returns
returns c =
    let w = gathered (c.loop-pos.invariant.0 _ c.requires.1) c.loop-pos-test.false in
    record {
      front = λ f h. (gathered (c.loop-pos.invariant.0 f h) c.loop-pos-test.false).front;
      room = omega (arith, w.room, view_length c.loop-pos.area Names);
      only = c.loop-pos.invariant.1;
    }
