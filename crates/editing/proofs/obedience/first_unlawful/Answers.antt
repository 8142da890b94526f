use Rattle.std.proofs.Common.{◌<◌, length, Some, sym, refl, ◌∙◌, arith}
use Rattle.std.proofs.lemmas.List.{drop_all}
use Rattle.stored.proofs.Places.{nodes_some, begun as root_Stands}
use Rattle.area.specs.Views.{view}
use Rattle.area.specs.declared.regions.Region.TheVariants.{Tree, Stack}
use Rattle.area.proofs.Laws.{none, also, view_length}
use Rattle.editing.proofs.Carried.{carried_holds, some_present, near, within_limit}
use Rattle.editing.proofs.Walks.{none_missing, root_refused, top_of, comes_to, asked, closed, refused, opened, done, begun}
use Rattle.editing.proofs.obedience.first_unlawful.Goals as goal

pub returns-then-count-eq0 : goal.returns-then-count-eq0
returns-then-count-eq0 g c =
    record { answer = λ t h u. sym (none_missing _ _ t 0 (omega (arith, h.count, c.if-count-eq0.true))); only = none _ _ }

pub open-requires : goal.open-requires
open-requires g c =
    let h = root_Stands c.requires.1.begins (some_present c.requires.0 _ c.requires.1.count c.if-count-eq0.false) in
    record {
      stands = (_, h);
      room = omega (arith, within_limit c.args.area.now (Tree c.args.table) refl h, c.requires.1.count, c.if-count-eq0.false);
      within = omega arith;
    }

pub returns-in_default : goal.returns-in_default
returns-in_default g c =
    record {
      answer = λ t h u.
          let p = some_present t _ h.count c.if-count-eq0.false in
          sym (root_refused _ _ t 0 p u (sym (c.in_default.ensures.answer _ (root_Stands h.begins p))));
      only = c.open.ensures.only;
    }

pub loop-top-init : goal.loop-top-init
loop-top-init g c =
    let tree = Tree c.args.table in
    let a = c.args.area.now in
    let e = c.open.ensures.only.same tree refl in
    let bottom = drop_all c.size-full.result (view a Stack) (omega (arith, view_length a Stack)) in
    let o = c.in-Some.ensures in
    let root = root_Stands c.requires.1.begins (some_present c.requires.0 _ c.requires.1.count c.if-count-eq0.false) in
    let w = o.opened _ c.in-Some.top root refl in (
      omega (arith, w.lower),
      omega (arith, w.lower),
      λ t h u.
          let p = some_present t _ h.count c.if-count-eq0.false in
          let k = root_Stands (carried_holds (sym e) h).begins p in
          begun _ _ (Some 0) (view a Stack) _ c.size-full.result _ (root_Stands h.begins p) h.count u bottom (sym (o.answer _ k))
          (o.opened _ c.in-Some.top k refl),
      none _ _,
    )

pub get-end-requires : goal.get-end-requires
get-end-requires g c =
    let h = carried_holds (c.open.ensures.only.same (Tree c.args.table) refl) c.requires.1 in
    let n = view_length c.loop-top.area Stack in
    let l : c.loop-top.top < length (view c.loop-top.area Stack) = omega (arith, c.loop-top.invariant.3.same_limit, c.open.ensures.only.same_limit) in
    omega (arith, (top_of (c.loop-top.invariant.2 _ h c.requires.2) l).words.room)

pub loop-top-preserved-then-at-end : goal.loop-top-preserved-then-at-end
loop-top-preserved-then-at-end g c =
    let h = carried_holds (c.open.ensures.only.same (Tree c.args.table) refl) c.requires.1 in
    let n = view_length c.loop-top.area Stack in
    let l : c.loop-top.top < length (view c.loop-top.area Stack) = omega (arith, c.loop-top.invariant.3.same_limit, c.open.ensures.only.same_limit) in (
      omega (arith, c.loop-top.invariant.0),
      omega (arith, (top_of (c.loop-top.invariant.2 _ h c.requires.2) l).words.room, c.loop-top.invariant.3.same_limit, c.open.ensures.only.same_limit),
      λ t h u. closed (top_of (c.loop-top.invariant.2 t h u) l) (c.if-at-end.true ∙ c.get-end.ensures),
      c.loop-top.invariant.3,
    )

pub name-requires : goal.name-requires
name-requires g c =
    let h = carried_holds (c.open.ensures.only.same (Tree c.args.table) refl) c.requires.1 in
    let n = view_length c.loop-top.area Stack in
    let l : c.loop-top.top < length (view c.loop-top.area Stack) = omega (arith, c.loop-top.invariant.3.same_limit, c.open.ensures.only.same_limit) in
    (_, (comes_to (c.loop-top.invariant.2 _ h c.requires.2) l _ c.get-end.ensures c.if-at-end.false).here)

pub open-requires-else-at-end : goal.open-requires-else-at-end
open-requires-else-at-end g c =
    let h = carried_holds (c.open.ensures.only.same (Tree c.args.table) refl) c.requires.1 in
    let n = view_length c.loop-top.area Stack in
    let l : c.loop-top.top < length (view c.loop-top.area Stack) = omega (arith, c.loop-top.invariant.3.same_limit, c.open.ensures.only.same_limit) in
    let k = comes_to (c.loop-top.invariant.2 _ h c.requires.2) l _ c.get-end.ensures c.if-at-end.false in
    let one = nodes_some k.self.tree k.self.is_present in
    let low = within_limit c.loop-top.area (Tree c.args.table) refl k.here in
    record {
      stands = (_, k.here);
      room = omega (arith, c.loop-top.invariant.0, c.loop-top.invariant.3.same_limit, c.open.ensures.only.same_limit);
      within = omega (arith, c.loop-top.invariant.1, c.loop-top.invariant.3.same_limit, c.open.ensures.only.same_limit);
    }

pub returns-in_default-open : goal.returns-in_default-open
returns-in_default-open g c =
    let tree = Tree c.args.table in
    let n = view_length c.loop-top.area Stack in
    let l : c.loop-top.top < length (view c.loop-top.area Stack) = omega (arith, c.loop-top.invariant.3.same_limit, c.open.ensures.only.same_limit) in
    record {
      answer = λ t i u.
          let h = carried_holds (c.open.ensures.only.same tree refl) i in
          let k = comes_to (c.loop-top.invariant.2 t h u) l _ c.get-end.ensures c.if-at-end.false in
          let e = asked k _ _ _ (c.name.ensures _ k.here) c.get-parent.ensures c.class_under-class.ensures.under in
          sym (refused k _ e (sym (c.in_default-open.ensures.answer _ k.here)));
      only = also (also c.open.ensures.only c.loop-top.invariant.3 refl) c.open-else-at-end.ensures.only refl;
    }

pub overflow_add-at : goal.overflow_add-at
overflow_add-at g c =
    let h = carried_holds (c.open.ensures.only.same (Tree c.args.table) refl) c.requires.1 in
    let n = view_length c.loop-top.area Stack in
    let l : c.loop-top.top < length (view c.loop-top.area Stack) = omega (arith, c.loop-top.invariant.3.same_limit, c.open.ensures.only.same_limit) in
    let k = comes_to (c.loop-top.invariant.2 _ h c.requires.2) l _ c.get-end.ensures c.if-at-end.false in
    omega (arith, near c.loop-top.area (Tree c.args.table) k.here)

pub loop-top-smaller : goal.loop-top-smaller
loop-top-smaller g c =
    let h = carried_holds (c.open.ensures.only.same (Tree c.args.table) refl) c.requires.1 in
    let n = view_length c.loop-top.area Stack in
    let l : c.loop-top.top < length (view c.loop-top.area Stack) = omega (arith, c.loop-top.invariant.3.same_limit, c.open.ensures.only.same_limit) in
    let k = comes_to (c.loop-top.invariant.2 _ h c.requires.2) l _ c.get-end.ensures c.if-at-end.false in
    let one = nodes_some k.self.tree k.self.is_present in
    let w = c.in-Some-open.ensures.opened _ c.in-Some-open.lower k.here refl in
    omega (arith, k.within, w.lower, c.loop-top.invariant.1)

pub loop-top-preserved : goal.loop-top-preserved
loop-top-preserved g c =
    let tree = Tree c.args.table in
    let h = carried_holds (c.open.ensures.only.same tree refl) c.requires.1 in
    let n = view_length c.loop-top.area Stack in
    let l : c.loop-top.top < length (view c.loop-top.area Stack) = omega (arith, c.loop-top.invariant.3.same_limit, c.open.ensures.only.same_limit) in
    let k = comes_to (c.loop-top.invariant.2 _ h c.requires.2) l _ c.get-end.ensures c.if-at-end.false in
    let o = c.in-Some-open.ensures in
    let w = o.opened _ c.in-Some-open.lower k.here refl in (
      omega (arith, w.lower, c.loop-top.invariant.0),
      omega (arith, w.lower, c.loop-top.invariant.1),
      λ t h u.
          let k = comes_to (c.loop-top.invariant.2 t h u) l _ c.get-end.ensures c.if-at-end.false in
          let e = asked k _ _ _ (c.name.ensures _ k.here) c.get-parent.ensures c.class_under-class.ensures.under in
          rw (o.only.same tree refl) (opened k _ _ _ e (sym (o.answer _ k.here)) (o.opened _ c.in-Some-open.lower k.here refl)),
      also c.loop-top.invariant.3 o.only refl,
    )

pub returns : goal.returns
returns g c =
    record {
      answer = λ t i u.
          let h = carried_holds (c.open.ensures.only.same (Tree c.args.table) refl) i in
          sym (done (c.loop-top.invariant.2 t h u) (omega (arith, view_length c.loop-top.area Stack, c.loop-top.invariant.3.same_limit, c.open.ensures.only.same_limit)));
      only = also c.open.ensures.only c.loop-top.invariant.3 refl;
    }
