-- What three record files load as.
use Rattle.std.specs.Prelude.{ℕ, ◌≤◌, cond, List, Some, Ok, Err, Result, nat_le}
use Rattle.model.specs.Trees.{Tree, nodes}
use Rattle.model.specs.Meaning.{Meaning}
use Rattle.model.specs.Round.{Outcome, outcome}
use Rattle.refusals.specs.declared.Refusal.{Refusal}
use Rattle.refusals.specs.declared.Reason.TheVariants.{Crowded}
use Rattle.refusals.specs.declared.Whose.{Whose}
use Rattle.refusals.specs.declared.Whose.TheVariants as whose
use Rattle.refusals.specs.Numbers.{refused}
pub use Rattle.records.specs.Reading.{an_archive}
use Rattle.records.specs.Reading.{says, then}
use Rattle.records.specs.Views.{tree_of, LiesIn}
use Rattle.obeying.specs.Lawful.{lawful, copy_of}
use Rattle.stored.specs.Words.{Holds}
use Rattle.area.specs.Views.{view, limit}
use Rattle.area.specs.declared.types.Area.{Area}
use Rattle.area.specs.declared.regions.Region.TheVariants as region
use Rattle.tables.specs.declared.Table.TheVariants.{Archive, Field, Bench}
use Rattle.tables.specs.declared.Three.{Three}
use Rattle.records.specs.declared.view.View.{View}

-- A tree of at most so many nodes, or a refusal that tells how many it has.
abbrev pub within : ℕ → Whose → Tree → Result Tree Refusal
within l w t = cond (nat_le (nodes t) l) (Ok t) (Err (refused Crowded w (nodes t)))

abbrev pub archive_loaded : ℕ → List ℕ → Result Tree Refusal
archive_loaded l bs = then (says bs an_archive) (within l whose.Archive)

-- A copy is read, then counted, then held to the rulebook.
abbrev pub copy_loaded : Meaning → ℕ → Whose → List ℕ → Result Tree Refusal
copy_loaded m l w bs = then (then (says bs (copy_of w 0)) (within l w)) (lawful m (Some 0) w)

-- The archive first, then the field copy, then the bench copy.
abbrev pub loaded : Meaning → ℕ → List ℕ → List ℕ → List ℕ → Result Outcome Refusal
loaded m l archive field bench =
    then (archive_loaded l archive) (λ o.
    then (copy_loaded m l whose.Field field) (λ a.
    then (copy_loaded m l whose.Bench bench) (λ b.
    Ok (outcome o a b))))

-- The views of three record files, the trees that they show, and the numbers of their nodes.
abbrev pub Views : Type 0
Views = Three View

abbrev pub outcome_of : Views → Outcome
outcome_of v = outcome (tree_of v.archive) (tree_of v.field) (tree_of v.bench)

abbrev pub outcomes_of : Result Views Refusal → Result Outcome Refusal
outcomes_of (Ok v) = Ok (outcome_of v)
outcomes_of (Err e) = Err e

abbrev pub sizes_of : Views → Three ℕ
sizes_of v = record { archive = nodes (tree_of v.archive); field = nodes (tree_of v.field); bench = nodes (tree_of v.bench) }

-- Each view is of the records before the trailer of its file.
abbrev pub LieIn : List ℕ → List ℕ → List ℕ → Views → Type 0
LieIn archive field bench v = LiesIn archive v.archive × LiesIn field v.field × LiesIn bench v.bench

-- The area holds three trees, and none has more nodes than the limit.
pub record Loaded (area : Area) (r : Outcome) : Type 0 where
  pub archive : Holds (view area (region.Tree Archive)) (nodes r.archive) r.archive
  pub field : Holds (view area (region.Tree Field)) (nodes r.field) r.field
  pub bench : Holds (view area (region.Tree Bench)) (nodes r.bench) r.bench
  pub archive_few : nodes r.archive ≤ limit area
  pub field_few : nodes r.field ≤ limit area
  pub bench_few : nodes r.bench ≤ limit area
