-- Three trees that an area keeps.
use Rattle.std.proofs.Common.{◌≡◌, ℕ, ◌≤◌, false, List, [], ◌∷◌, sym, refl, subst, arith}
use Rattle.model.specs.Trees.{Tree as TheTree, missing, nodes, marks}
use Rattle.model.specs.Round.{Outcome, outcome}
use Rattle.stored.specs.Words.{Holds}
use Rattle.area.specs.Views.{view, limit, among, Only}
use Rattle.area.specs.declared.types.Area.{Area}
use Rattle.tables.specs.declared.Table.{Table}
use Rattle.tables.specs.declared.Table.TheVariants.{Archive, Field, Bench}
use Rattle.area.specs.declared.regions.Region.{Region}
use Rattle.area.specs.declared.regions.Region.TheVariants.{Tree}
use Rattle.merging.specs.Tables.{Sizes}
use Rattle.tables.specs.Pick.{pick as size_in}
use Rattle.editing.proofs.Carried.{carried_holds}
use Rattle.ledger.specs.declared.Side.{Side}
use Rattle.ledger.specs.declared.Side.TheVariants as side
use Rattle.ledger.specs.Answers.{table_of, copy, with_copy}
use Rattle.service.specs.Keeping.{Kept}
use Rattle.service.specs.Service.{pick}

module _ {a : Area} {place : Table → Region} {n : Sizes} {s : Outcome} (h : Kept a place n s) where
  -- The area still keeps them after any change to other regions.
  pub still_kept : {rs : List Region} {b : Area} → Only rs a b → ((t : Table) → among (place t) rs ≡ false) → Kept b place n s
  still_kept only d =
      record {
        archive = carried_holds (only.same (place Archive) (d Archive)) h.archive;
        field = carried_holds (only.same (place Field) (d Field)) h.field;
        bench = carried_holds (only.same (place Bench) (d Bench)) h.bench;
        archive_few = omega (arith, h.archive_few, only.same_limit);
        field_few = omega (arith, h.field_few, only.same_limit);
        bench_few = omega (arith, h.bench_few, only.same_limit);
        field_unmarked = h.field_unmarked;
        bench_unmarked = h.bench_unmarked;
      }

  -- The tree of one table.
  pub tree_held : (t : Table) → Holds (view a (place t)) (size_in t n) (pick t s)
  tree_held Archive = h.archive
  tree_held Field = h.field
  tree_held Bench = h.bench

  -- In words and with a count that are known by other names.
  pub tree_shown : (t : Table) (ws : List ℕ) → ws ≡ view a (place t) → (k : ℕ) → k ≡ size_in t n → Holds ws k (pick t s)
  tree_shown t ws e k f = subst (λ j. Holds ws j (pick t s)) (sym f) (carried_holds e (tree_held t))

-- The numbers of nodes, with another for one side.
abbrev pub with_size : Side → ℕ → Sizes → Sizes
with_size side.Field k n = record n { field = k }
with_size side.Bench k n = record n { bench = k }

picked : (e : Side) (s : Outcome) → pick (table_of e) s ≡ copy e s
picked side.Field s = refl
picked side.Bench s = refl

module _ {a : Area} {n : Sizes} {s : Outcome} (h : Kept a Tree n s) where
  -- The copy of a side.
  pub copy_held : (e : Side) → Holds (view a (Tree (table_of e))) (size_in (table_of e) n) (copy e s)
  copy_held e = subst (Holds (view a (Tree (table_of e))) (size_in (table_of e) n)) (picked e s) (tree_held h (table_of e))

  pub copy_unmarked : (e : Side) → marks (copy e s) ≡ 0
  copy_unmarked side.Field = h.field_unmarked
  copy_unmarked side.Bench = h.bench_unmarked

  pub copy_few : (e : Side) → nodes (copy e s) ≤ limit a
  copy_few side.Field = h.field_few
  copy_few side.Bench = h.bench_few

  -- It keeps them with another copy, once the region of that copy holds it, and the others are as before.
  pub kept_with : (e : Side) {rs : List Region} {b : Area} {k : ℕ} {t : TheTree} → Only rs a b
      → ((t : Table) → among (Tree t) (Tree (table_of e) ∷ []) ≡ false → among (Tree t) rs ≡ false)
      → Holds (view b (Tree (table_of e))) k t → nodes t ≤ limit a → marks t ≡ 0 → Kept b Tree (with_size e k n) (with_copy e t s)
  kept_with side.Field only d new few unmarked =
      record {
        archive = carried_holds (only.same (Tree Archive) (d Archive refl)) h.archive;
        field = new;
        bench = carried_holds (only.same (Tree Bench) (d Bench refl)) h.bench;
        archive_few = omega (arith, h.archive_few, only.same_limit);
        field_few = omega (arith, few, only.same_limit);
        bench_few = omega (arith, h.bench_few, only.same_limit);
        field_unmarked = unmarked;
        bench_unmarked = h.bench_unmarked;
      }
  kept_with side.Bench only d new few unmarked =
      record {
        archive = carried_holds (only.same (Tree Archive) (d Archive refl)) h.archive;
        field = carried_holds (only.same (Tree Field) (d Field refl)) h.field;
        bench = new;
        archive_few = omega (arith, h.archive_few, only.same_limit);
        field_few = omega (arith, h.field_few, only.same_limit);
        bench_few = omega (arith, few, only.same_limit);
        field_unmarked = h.field_unmarked;
        bench_unmarked = unmarked;
      }

-- Any words hold three missing trees.
pub nothing_kept : (a : Area) → Kept a Tree (record { archive = 0; field = 0; bench = 0 }) (outcome missing missing missing)
nothing_kept a =
    record {
      archive = none (view a (Tree Archive));
      field = none (view a (Tree Field));
      bench = none (view a (Tree Bench));
      archive_few = omega arith;
      field_few = omega arith;
      bench_few = omega arith;
      field_unmarked = refl;
      bench_unmarked = refl;
    }
  where
    none : (ws : List ℕ) → Holds ws 0 missing
    none ws = record { begins = record { rest = ws; well_formed = tt; words = refl }; count = refl; few = omega arith; shallow = omega arith }
