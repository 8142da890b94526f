use Rattle.std.proofs.Common.{sym, refl, ap}
use Rattle.tables.specs.declared.Table.TheVariants.{Field, Bench}
use Rattle.area.specs.declared.regions.Region.TheVariants.{Tree as Old, New}
use Rattle.area.proofs.Laws.{also, wider}
use Rattle.merging.specs.Tables.{tree_of}
use Rattle.merging.proofs.Finding.{at_as}
use Rattle.merging.proofs.Writing.{listing, grown_in, grown_as, again}
use Rattle.merging.proofs.Sealing.{stands, refused, opened_room}
use Rattle.merging.proofs.closing.close.Goals as goal

pub seal_all-requires : goal.seal_all-requires
seal_all-requires g c = (_, _, c.requires.1.opened)

pub both_allowed-requires : goal.both_allowed-requires
both_allowed-requires g c =
    let w = c.requires.1 in
    let s = c.seal_all.ensures.grows _ _ w.opened in
    (_, _, listing (s Field) (opened_room (w.opened Field)) (w.listed Field), listing (s Bench) (opened_room (w.opened Bench)) (w.listed Bench))

pub returns-then-both_allowed : goal.returns-then-both_allowed
returns-then-both_allowed g c =
    let m = g.R.Rulebook.meaning c.args.rules.now in
    let p = c.both_allowed.ensures.only in
    record {
      grows = λ lv w t.
          let s = c.seal_all.ensures.grows _ _ w.opened in
          let x =
          c.both_allowed.ensures.answer _ _ (listing (s Field) (opened_room (w.opened Field)) (w.listed Field))
          (listing (s Bench) (opened_room (w.opened Bench)) (w.listed Bench)) in
          grown_in refl (p.same (New t) refl)
          (grown_as (s t) (stands m c.args.frame.class lv.one lv.two lv.done x c.if-both_allowed.true t));
      only = also (wider c.seal_all.ensures.only refl) p refl;
    }

pub returns-else-both_allowed : goal.returns-else-both_allowed
returns-else-both_allowed g c =
    let m = g.R.Rulebook.meaning c.args.rules.now in
    let p = c.both_allowed.ensures.only in
    let z = c.seal_all.ensures.only in
    record {
      grows = λ lv w t.
          let s = c.seal_all.ensures.grows _ _ w.opened in
          let x =
          c.both_allowed.ensures.answer _ _ (listing (s Field) (opened_room (w.opened Field)) (w.listed Field))
          (listing (s Bench) (opened_room (w.opened Bench)) (w.listed Bench)) in
          let hf = at_as (p.same (Old Field) refl) (at_as (z.same (Old Field) refl) w.field_here) in
          let hb = at_as (p.same (Old Bench) refl) (at_as (z.same (Old Bench) refl) w.bench_here) in
          grown_as (again (s t) (opened_room (w.opened t)) (grown_in (sym (p.same (New t) refl)) refl (c.roll_back.ensures.grows _ _ _ hf hb t)))
          (ap (tree_of t) (refused m c.args.frame.class lv.one lv.two lv.done x c.if-both_allowed.false));
      only = also (also (wider z refl) p refl) c.roll_back.ensures.only refl;
    }
