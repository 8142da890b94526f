-- An area keeps the trees that its words say and no others, and in one way at most.
use Rattle.std.proofs.Common.{◌≡◌, sym, subst}
use native.Mathlib.Bridge.{le_prop}
use native.Mathlib.Nat.{ℕ_set}
use mathlib.Core.Logic.{∥∥₁_elim}
use Rattle.model.specs.Round.{Outcome}
use Rattle.area.specs.declared.types.Area.{Area}
use Rattle.tables.specs.declared.Table.{Table}
use Rattle.area.specs.declared.regions.Region.{Region}
use Rattle.merging.specs.Tables.{Sizes}
use Rattle.service.specs.Keeping.{trees_in, Kept}
use Rattle.stored.proofs.Decoding.{decodes}
use Rattle.stored.proofs.Once.{holds_once}

-- An area keeps three trees in one way at most.
pub kept_once : (a : Area) (place : Table → Region) (n : Sizes) (s : Outcome) → IsProp (Kept a place n s)
kept_once a place n s h k = λ i.
    record {
      archive = holds_once _ _ _ h.archive k.archive i;
      field = holds_once _ _ _ h.field k.field i;
      bench = holds_once _ _ _ h.bench k.bench i;
      archive_few = le_prop h.archive_few k.archive_few i;
      field_few = le_prop h.field_few k.field_few i;
      bench_few = le_prop h.bench_few k.bench_few i;
      field_unmarked = ℕ_set _ _ h.field_unmarked k.field_unmarked i;
      bench_unmarked = ℕ_set _ _ h.bench_unmarked k.bench_unmarked i;
    }

-- The trees that an area keeps are those that its words say, so it keeps those.
pub kept_trees : {a : Area} {place : Table → Region} {n : Sizes} {s : Outcome} → Kept a place n s → trees_in a place n ≡ s
kept_trees h = λ i. record { archive = decodes h.archive i; field = decodes h.field i; bench = decodes h.bench i }

pub kept_itself : {a : Area} {place : Table → Region} {n : Sizes} {s : Outcome} → Kept a place n s → Kept a place n (trees_in a place n)
kept_itself {a} {place} {n} h = subst (Kept a place n) (sym (kept_trees h)) h

-- There is one proof at most that they are kept, so it is at hand wherever it is known to exist.
pub open_keeps : (a : Area) (place : Table → Region) (n : Sizes) → ∥ Kept a place n (trees_in a place n) ∥₁ → Kept a place n (trees_in a place n)
open_keeps a place n x = ∥∥₁_elim x (kept_once a place n (trees_in a place n)) (λ h. h)
