use Rattle.std.proofs.Common.{◌+◌, ◌*◌, cond, [], ◌∷◌, ◌++◌, take, drop, refl, ap, ◌∙◌, arith}
use Rattle.stored.specs.Lookup.{at_of}
use Rattle.area.specs.Views.{view}
use Rattle.tables.specs.declared.Table.TheVariants.{Archive, Field, Bench}
use Rattle.area.specs.declared.regions.Region.TheVariants.{New, Stack}
use Rattle.area.proofs.Laws.{also, wider, limit_small}
use Rattle.tables.specs.Pick.{pick}
use Rattle.merging.specs.Frames.{frame_words}
use Rattle.merging.proofs.Finding.{found_present}
use Rattle.merging.proofs.Writing.{by_table}
use Rattle.merging.proofs.descend.Goals as goal

pub past_all-requires : goal.past_all-requires
past_all-requires c = (_, c.requires.1.finds)

pub push-requires : goal.push-requires
push-requires c =
    let o = c.requires.1 in
    let e = c.past_all.ensures _ o.finds in
    let s = limit_small c.args.area.now in
    record {
      room = o.deep;
      within = o.within;
      low = record {
        ends_low =
            by_table _ (omega (arith, ap (pick Archive) e, o.low Archive)) (omega (arith, ap (pick Field) e, o.low Field))
            (omega (arith, ap (pick Bench) e, o.low Bench));
        new_low = by_table _ (omega (arith, o.room Archive)) (omega (arith, o.room Field)) (omega (arith, o.room Bench));
        field_low = omega (arith, o.low Field);
        bench_low = omega (arith, o.low Bench);
      };
    }

pub inside-requires : goal.inside-requires
inside-requires c = omega (arith, c.requires.1.low Archive)

pub inside-requires-2 : goal.inside-requires-2
inside-requires-2 c = omega (arith, c.requires.1.low Field)

pub inside-requires-3 : goal.inside-requires-3
inside-requires-3 c = omega (arith, c.requires.1.low Bench)

pub open_all-requires : goal.open_all-requires
open_all-requires c =
    let o = c.requires.1 in
    let e = c.push.ensures.only.same_limit in
    by_table _ (omega (arith, o.room Archive, e)) (omega (arith, o.room Field, e)) (omega (arith, o.room Bench, e))

pub returns : goal.returns
returns c =
    let a = c.args.area.now in
    let h = c.args.here in
    let w = c.args.walk in
    record {
      opens = λ ts o.
          let f = o.finds in
          let rest = drop w.top (view a Stack) in
          record {
            top = c.push.ensures.top;
            pile =
                ap (drop c.push.result) (c.open_all.ensures.only.same Stack refl)
                ∙ c.push.ensures.pile
                ∙ (λ i. frame_words (record { class = c.args.class; ends = c.past_all.ensures ts f i; field = c.place.ensures i; bench = c.place-2.ensures i; new = w.new }) ++ rest);
            at =
                λ i. record {
                  archive = (c.inside.ensures ∙ ap (λ b. at_of h.places.archive + cond b 1 0) (found_present (f Archive))) i;
                  field = (c.inside-2.ensures ∙ ap (λ b. at_of h.places.field + cond b 1 0) (found_present (f Field))) i;
                  bench = (c.inside-3.ensures ∙ ap (λ b. at_of h.places.bench + cond b 1 0) (found_present (f Bench))) i;
                };
            new = c.open_all.ensures.ends;
            words = λ t.
                c.open_all.ensures.words t
                ∙ ap (λ l. take (3 * pick t w.new) l ++ h.name ∷ 0 ∷ 0 ∷ []) (c.push.ensures.only.same (New t) refl);
          };
      only = also (wider c.push.ensures.only refl) c.open_all.ensures.only refl;
    }
