-- Three record files that are loaded.
use Rattle.std.proofs.Common.{Some}
use Rattle.model.specs.Trees.{nodes}
use Rattle.model.specs.Meaning.{Meaning, Obeys}
use Rattle.model.specs.Round.{Outcome}
use Rattle.model.proofs.Theorems.{no_marks}
use Rattle.area.specs.declared.types.Area.{Area}
use Rattle.area.specs.declared.regions.Region.TheVariants.{Tree}
use Rattle.loading.specs.Loads.{Loaded}
use Rattle.service.specs.Keeping.{Kept}

-- The area keeps the trees that were loaded, whose copies obey.
pub loaded_kept : (m : Meaning) {b : Area} {t : Outcome} → Loaded b t → Obeys m (Some 0) t.field × Obeys m (Some 0) t.bench
    → Kept b Tree (record { archive = nodes t.archive; field = nodes t.field; bench = nodes t.bench }) t
loaded_kept m {t = t} h obey =
    record {
      archive = h.archive;
      field = h.field;
      bench = h.bench;
      archive_few = h.archive_few;
      field_few = h.field_few;
      bench_few = h.bench_few;
      field_unmarked = no_marks m (Some 0) t.field obey.0;
      bench_unmarked = no_marks m (Some 0) t.bench obey.1;
    }
