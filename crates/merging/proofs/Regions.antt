-- Writes to the new regions of all three tables, one after the other.
use Rattle.std.proofs.Common.{◌≡◌, false, List, [], ◌∷◌, sym, refl, ◌∙◌}
use mathlib.Core.Path.{fun_ext}
use Rattle.model.specs.Trees.{Tree}
use Rattle.area.specs.Views.{view, among, Only}
use Rattle.area.specs.declared.types.Area.{Area}
use Rattle.tables.specs.declared.Table.{Table}
use Rattle.tables.specs.declared.Table.TheVariants.{Archive, Field, Bench}
use Rattle.area.specs.declared.regions.Region.{Region}
use Rattle.area.specs.declared.regions.Region.TheVariants.{Tree as Old, New}
use Rattle.area.proofs.Laws.{also, wider}
use Rattle.merging.specs.declared.types.Here.{Here}
use Rattle.merging.specs.Tables.{sources}
use Rattle.merging.specs.Looking.{Finds}
use Rattle.merging.proofs.Finding.{at_as}

abbrev pub three_new : List Region
three_new = New Archive ∷ New Field ∷ New Bench ∷ []

pub twice : {a b c : Area} → Only (New Archive ∷ []) a b → Only (New Field ∷ []) b c → Only three_new a c
twice p q = also (wider p refl) q refl

-- What each region held before its write and holds at the end.
pub record Thrice (a b c d : Area) : Type 0 where
  pub only : Only three_new a d
  pub archive_after : view d (New Archive) ≡ view b (New Archive)
  pub field_before : view a (New Field) ≡ view b (New Field)
  pub field_after : view d (New Field) ≡ view c (New Field)
  pub bench_before : view a (New Bench) ≡ view c (New Bench)

pub thrice : {a b c d : Area} → Only (New Archive ∷ []) a b → Only (New Field ∷ []) b c → Only (New Bench ∷ []) c d → Thrice a b c d
thrice p q r =
    record {
      only = also (twice p q) r refl;
      archive_after = r.same (New Archive) refl ∙ q.same (New Archive) refl;
      field_before = sym (p.same (New Field) refl);
      field_after = r.same (New Field) refl;
      bench_before = sym (q.same (New Bench) refl ∙ p.same (New Bench) refl);
    }

-- The tables keep their trees while nothing but other regions is written.
pub same_sources : {rs : List Region} {a b : Area} → Only rs a b → ((t : Table) → among (Old t) rs ≡ false) → sources b ≡ sources a
same_sources o d = fun_ext (λ t. o.same (Old t) (d t))

pub still_finds : {rs : List Region} {a b : Area} {h : Here} {ts : Table → Tree} → Only rs a b → ((t : Table) → among (Old t) rs ≡ false)
    → Finds a h ts → Finds b h ts
still_finds o d f t = at_as (o.same (Old t) (d t)) (f t)
