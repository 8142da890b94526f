use Rattle.std.proofs.Common.{sym, refl, ◌∙◌}
use Rattle.tables.specs.declared.Table.TheVariants.{Archive, Field, Bench}
use Rattle.merging.proofs.Writing.{by_table, grown_in, opened_in}
use Rattle.merging.proofs.Regions.{thrice}
use Rattle.area.specs.declared.regions.Region.TheVariants.{New}
use Rattle.merging.proofs.outputs.seal_all.Goals as goal

pub seal-requires : goal.seal-requires
seal-requires c = (_, _, c.requires.2 Archive)

pub seal-requires-2 : goal.seal-requires-2
seal-requires-2 c = (_, _, opened_in (c.seal.ensures.only.same (New Field) refl) (c.requires.2 Field))

pub seal-requires-3 : goal.seal-requires-3
seal-requires-3 c =
    (_, _, opened_in (c.seal-2.ensures.only.same (New Bench) refl ∙ c.seal.ensures.only.same (New Bench) refl) (c.requires.2 Bench))

pub returns : goal.returns
returns c =
    let w = thrice c.seal.ensures.only c.seal-2.ensures.only c.seal-3.ensures.only in
    record {
      grows = λ k done h.
          by_table _ (grown_in refl w.archive_after (c.seal.ensures.grows k (done Archive) (h Archive)))
          (grown_in w.field_before w.field_after (c.seal-2.ensures.grows k (done Field) (opened_in (sym w.field_before) (h Field))))
          (grown_in w.bench_before refl (c.seal-3.ensures.grows k (done Bench) (opened_in (sym w.bench_before) (h Bench))));
      only = w.only;
    }
