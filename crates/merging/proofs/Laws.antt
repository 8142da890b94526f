-- The laws by which callers go on after a round.
use Rattle.std.proofs.Common.{◌≡◌, ◌*◌, ◌≤◌, false, List, ◌++◌, drop, sym, ap, ◌∙◌, subst}
use Rattle.std.proofs.lemmas.List.{take-append-drop}
use Rattle.model.specs.Trees.{Tree, WellFormed, nodes}
use Rattle.model.specs.Round.{Outcome}
use Rattle.stored.specs.Words.{Begins, Holds}
use Rattle.stored.proofs.Unique.{emit_rest}
use Rattle.area.specs.Views.{view, among, Only}
use Rattle.area.specs.declared.types.Area.{Area}
use Rattle.tables.specs.declared.Table.{Table}
use Rattle.tables.specs.declared.Table.TheVariants.{Archive, Field, Bench}
use Rattle.area.specs.declared.regions.Region.{Region}
use Rattle.area.specs.declared.regions.Region.TheVariants.{Tree as Old, New}
use Rattle.merging.specs.Tables.{Sizes}
use Rattle.merging.specs.Tables.{tree_of}
use Rattle.tables.specs.Pick.{pick}
use Rattle.merging.specs.Held.{Held, Merged}

-- A new region begins with its tree, whatever stands behind it.
pub begins : {target : Outcome} {area : Area} {new : Sizes} → Merged target area new → (t : Table) → WellFormed (tree_of t target)
    → Begins (view area (New t)) (tree_of t target)
begins {target} {area} {new} m t w =
    let behind = drop (3 * pick t new) (view area (New t)) in
    record {
      rest = behind;
      well_formed = w;
      words =
          sym (take-append-drop (3 * pick t new) (view area (New t)))
          ∙ ap (λ l. l ++ behind) (m.words t)
          ∙ sym (emit_rest (tree_of t target) 0 behind);
    }

-- The area still holds its trees after any change to other regions.
pub still_held : {rs : List Region} {area area' : Area} {sizes : Sizes} {o a b : Tree} → Only rs area area' → ((t : Table) → among (Old t) rs ≡ false)
    → Held area sizes o a b → Held area' sizes o a b
still_held {sizes = sizes} {o = o} {a = a} {b = b} only d h =
    record {
      archive = subst (λ ws. Holds ws sizes.archive o) (sym (only.same (Old Archive) (d Archive))) h.archive;
      field = subst (λ ws. Holds ws sizes.field a) (sym (only.same (Old Field) (d Field))) h.field;
      bench = subst (λ ws. Holds ws sizes.bench b) (sym (only.same (Old Bench) (d Bench))) h.bench;
      archive_few = subst (λ l. nodes o ≤ l) (sym only.same_limit) h.archive_few;
      field_few = subst (λ l. nodes a ≤ l) (sym only.same_limit) h.field_few;
      bench_few = subst (λ l. nodes b ≤ l) (sym only.same_limit) h.bench_few;
    }
