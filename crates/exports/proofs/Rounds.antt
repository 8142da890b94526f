-- Rounds that leave the trees of the area as they are.
use Rattle.std.proofs.Common.{◌≡◌, ℕ, ◌+◌, ◌≤◌, List, Some, Ok, sym, ap, subst, arith}
use Rattle.model.specs.Rulebooks.{open_meaning}
use Rattle.model.proofs.Theorems.{outcome_is_well_formed}
use Rattle.model.specs.Round.{Outcome, round}
use Rattle.model.specs.Safety.{Ready}
use Rattle.area.specs.declared.types.Area.{Area}
use Rattle.tables.specs.declared.Table.TheVariants.{Archive}
use Rattle.merging.specs.Tables.{Sizes}
use Rattle.merging.specs.Held.{Held, Merged}
use Rattle.loading.specs.Loads.{Views}
use Rattle.records.specs.Views.{tree_of}
use Rattle.loading.specs.Loads.{loaded, outcome_of, sizes_of, Loaded}
use Rattle.loading.proofs.Held.{loaded_obeys}
use Rattle.exports.specs.Answers.{Rounded, some}

-- Three files that were loaded, as a round finds them.
pub record Found (area : Area) (l : ℕ) (o f b : List ℕ) (n : Sizes) : Type 0 where
  pub trees : Outcome
  pub is : loaded open_meaning l o f b ≡ Ok trees
  pub held : Held area n trees.archive trees.field trees.bench
  pub ready : Ready open_meaning (Some 0) trees.archive trees.field trees.bench

pub found : {area : Area} (l : ℕ) (o f b : List ℕ) {n : Sizes} (v : Views) → Ok (outcome_of v) ≡ loaded open_meaning l o f b → Loaded area (outcome_of v) → n ≡ sizes_of v
    → Found area l o f b n
found {area} l o f b v e h q =
    let p = loaded_obeys open_meaning l o f b (outcome_of v) (sym e) in
    let k : Held area (sizes_of v) (tree_of v.archive) (tree_of v.field) (tree_of v.bench) =
    record { archive = h.archive; field = h.field; bench = h.bench; archive_few = h.archive_few; field_few = h.field_few; bench_few = h.bench_few } in
    record {
      trees = outcome_of v;
      is = sym e;
      held = subst (λ n. Held area n (tree_of v.archive) (tree_of v.field) (tree_of v.bench)) (sym q) k;
      ready = record {
        archive_formed = h.archive.begins.well_formed;
        field_formed = h.field.begins.well_formed;
        bench_formed = h.bench.begins.well_formed;
        field_obeys = p.0;
        bench_obeys = p.1;
      };
    }

-- The new archive has few nodes, and they are told.
pub few : {area : Area} {l : ℕ} {o f b : List ℕ} {n : Sizes} (x : Found area l o f b n) (new : Area) (made : Sizes) → Merged (round open_meaning x.trees.archive x.trees.field x.trees.bench) new made
    → made.archive ≤ 8192
few {area} x new made g =
    let w = outcome_is_well_formed open_meaning x.trees.archive x.trees.field x.trees.bench x.ready in
    omega (arith, g.counts Archive, w.archive_made.small, x.held.field.few, x.held.bench.few)

pub told : {area : Area} {l : ℕ} {o f b : List ℕ} {n : Sizes} (x : Found area l o f b n) (new : Area) (made : Sizes) → Merged (round open_meaning x.trees.archive x.trees.field x.trees.bench) new made
    → Rounded o f b (made.archive + 1)
told {l = l} x new made g = some l x.trees x.is (ap (λ n. n + 1) (g.counts Archive))
