use Rattle.std.proofs.Common.{refl, arith}
use Rattle.tables.specs.declared.Table.TheVariants.{Archive, Field, Bench}
use Rattle.merging.proofs.Regions.{twice, thrice, still_finds}
use Rattle.merging.proofs.Writing.{by_table, grown_in}
use Rattle.merging.proofs.outputs.settle.Goals as goal

pub put_settled-requires : goal.put_settled-requires
put_settled-requires c = (c.requires.0, c.requires.1, c.requires.2 Archive)

pub put_settled-requires-2 : goal.put_settled-requires-2
put_settled-requires-2 c =
    let p = c.put_settled.ensures.only in
    (c.requires.0, still_finds p (λ t. refl) c.requires.1, omega (arith, c.requires.2 Field, p.same_limit))

pub put_settled-requires-3 : goal.put_settled-requires-3
put_settled-requires-3 c =
    let p = twice c.put_settled.ensures.only c.put_settled-2.ensures.only in
    (c.requires.0, still_finds p (λ t. refl) c.requires.1, omega (arith, c.requires.2 Bench, p.same_limit))

pub returns : goal.returns
returns c =
    let x = c.put_settled.ensures.only in
    let y = c.put_settled-2.ensures.only in
    let z = twice x y in
    let w = thrice x y c.put_settled-3.ensures.only in
    record {
      grows = λ ts h.
          by_table _ (grown_in refl w.archive_after (c.put_settled.ensures.grows ts h))
          (grown_in w.field_before w.field_after (c.put_settled-2.ensures.grows ts (still_finds x (λ t. refl) h)))
          (grown_in w.bench_before refl (c.put_settled-3.ensures.grows ts (still_finds z (λ t. refl) h)));
      only = w.only;
    }
