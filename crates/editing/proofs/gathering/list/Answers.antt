use Rattle.std.proofs.Common.{sym, refl, ◌∙◌, arith}
use Rattle.std.proofs.lemmas.List.{append-nil}
use Rattle.stored.proofs.Rows.{ahead, step, done}
use Rattle.area.specs.declared.regions.Region.TheVariants.{Names}
use Rattle.area.proofs.Laws.{none, also, view_length, limit_small}
use Rattle.editing.proofs.Carried.{carried, not_names}
use Rattle.editing.proofs.Listing.{list_one}
use Rattle.editing.proofs.gathering.list.Goals as goal

pub loop-at-init : goal.loop-at-init
loop-at-init c = (
  c.requires.room,
  λ f b. record { left = f; row = b.row; ends = sym b.ends; holds = record { so_far = refl; count = refl } },
  none _ _,
)

pub name-here-requires : goal.name-here-requires
name-here-requires c = let a = ahead (c.loop-at.invariant.1 _ c.requires.row.1) (omega arith) in (_, a.here)

pub set-requires : goal.set-requires
set-requires c = omega (arith, c.loop-at.invariant.0, c.loop-at.invariant.2.same_limit)

pub overflow_add-i : goal.overflow_add-i
overflow_add-i c = omega (arith, c.loop-at.invariant.0, limit_small c.args.area.now)

pub next-at-requires : goal.next-at-requires
next-at-requires c =
    let a = ahead (c.loop-at.invariant.1 _ c.requires.row.1) (omega arith) in
    (_, carried (c.set.ensures.only.same c.args.of (not_names c.args.of c.requires.trees)) a.here)

pub loop-at-smaller : goal.loop-at-smaller
loop-at-smaller c =
    let a = ahead (c.loop-at.invariant.1 _ c.requires.row.1) (omega arith) in
    let e = c.set.ensures.only.same c.args.of (not_names c.args.of c.requires.trees) in
    omega (arith, c.next-at.ensures _ (carried e a.here), a.one, a.ends)

pub loop-at-preserved : goal.loop-at-preserved
loop-at-preserved c = (
  (let a = ahead (c.loop-at.invariant.1 _ c.requires.row.1) (omega arith) in
      let e = c.set.ensures.only.same c.args.of (not_names c.args.of c.requires.trees) in
      omega (arith, c.next-at.ensures _ (carried e a.here), a.one, a.ends, c.loop-at.invariant.0)),
  λ f b.
      let a = ahead (c.loop-at.invariant.1 f b) (omega arith) in
      let e = c.set.ensures.only.same c.args.of (not_names c.args.of c.requires.trees) in
      rw (e, c.set.ensures.here)
      (step a _ (c.next-at.ensures _ (carried e a.here))
      (rw (c.name-here.ensures _ a.here)
      (list_one a.holds (omega (arith, view_length c.loop-at.area Names, c.loop-at.invariant.0, c.loop-at.invariant.2.same_limit))))),
  also c.loop-at.invariant.2 c.set.ensures.only refl,
)

pub returns : goal.returns
returns c =
    record {
      many = λ f b. let w = done (c.loop-at.invariant.1 f b) (omega arith) in omega (arith, w.count);
      front = λ f b. let w = done (c.loop-at.invariant.1 f b) (omega arith) in sym (append-nil _) ∙ w.so_far;
      only = c.loop-at.invariant.2;
    }
