-- Three trees, read and then held by an area.
use Rattle.std.proofs.Common.{◌≡◌, ℕ, ◌*◌, ◌≤◌, List, [], ◌∷◌, drop, Some, Ok, Err, Result, refl, ◌∙◌, subst, sym, arith}
use Rattle.model.specs.Trees.{Tree, nodes}
use Rattle.model.specs.Meaning.{Meaning, Obeys}
use Rattle.model.specs.Round.{Outcome, outcome}
use Rattle.refusals.specs.declared.Refusal.{Refusal}
use Rattle.refusals.specs.declared.Whose.TheVariants as whose
use Rattle.records.specs.Reading.{then}
use Rattle.records.specs.Views.{tree_of}
use Rattle.stored.specs.Words.{emit}
use Rattle.transfer.proofs.Storing.{held}
use Rattle.area.specs.Views.{view, limit, Only}
use Rattle.area.specs.declared.types.Area.{Area}
use Rattle.area.specs.declared.regions.Region.TheVariants.{Tree as Old}
use Rattle.tables.specs.declared.Table.TheVariants.{Archive, Field, Bench}
use Rattle.loading.specs.Loads.{Views}
use Rattle.loading.specs.Loads.{archive_loaded, copy_loaded, loaded, outcome_of, Loaded}
use Rattle.loading.proofs.Reading.{copy_obeys}

-- After all three were brought.
pub all_held :
    (v : Views) {l : ℕ} {area one two three : Area}
    → (nodes (tree_of v.archive) ≤ l) × (nodes (tree_of v.field) ≤ l) × (nodes (tree_of v.bench) ≤ l)
    → l ≡ limit area
    → view one (Old Archive) ≡ emit (tree_of v.archive) 0 (drop (3 * nodes (tree_of v.archive)) (view area (Old Archive)))
    → Only (Old Archive ∷ []) area one
    → view two (Old Field) ≡ emit (tree_of v.field) 0 (drop (3 * nodes (tree_of v.field)) (view one (Old Field)))
    → Only (Old Field ∷ []) one two
    → view three (Old Bench) ≡ emit (tree_of v.bench) 0 (drop (3 * nodes (tree_of v.bench)) (view two (Old Bench)))
    → Only (Old Bench ∷ []) two three
    → Loaded three (outcome_of v)
all_held v {area = area} {three = three} few q e p f r g s =
    let n : limit three ≡ limit area = s.same_limit ∙ r.same_limit ∙ p.same_limit in
    record {
      archive = held v.archive _ refl (s.same (Old Archive) refl ∙ r.same (Old Archive) refl ∙ e);
      field = held v.field _ refl (s.same (Old Field) refl ∙ f);
      bench = held v.bench _ refl g;
      archive_few = omega (arith, few.0);
      field_few = omega (arith, few.1);
      bench_few = omega (arith, few.2);
    }

-- Both copies of a load obey.
pub loaded_obeys : (m : Meaning) (l : ℕ) (o a b : List ℕ) (t : Outcome) → loaded m l o a b ≡ Ok t → Obeys m (Some 0) t.field × Obeys m (Some 0) t.bench
loaded_obeys m l o a b t h = go (archive_loaded l o) (copy_loaded m l whose.Field a) (copy_loaded m l whose.Bench b) refl refl h
  where
    go : (x y z : Result Tree Refusal) → y ≡ copy_loaded m l whose.Field a → z ≡ copy_loaded m l whose.Bench b → then x (λ o. then y (λ a. then z (λ b. Ok (outcome o a b)))) ≡ Ok t
        → Obeys m (Some 0) t.field × Obeys m (Some 0) t.bench
    go (Err d) y z p q h = let n : ◌≡◌ {A = ℕ} 0 1 = cc in absurd (omega arith)
    go (Ok s) (Err d) z p q h = let n : ◌≡◌ {A = ℕ} 0 1 = cc in absurd (omega arith)
    go (Ok s) (Ok u) (Err d) p q h = let n : ◌≡◌ {A = ℕ} 0 1 = cc in absurd (omega arith)
    go (Ok s) (Ok u) (Ok w) p q h =
        let i : outcome s u w ≡ t = cc in (
          subst (λ (r : Outcome). Obeys m (Some 0) r.field) i (copy_obeys m l whose.Field a u (sym p)),
          subst (λ (r : Outcome). Obeys m (Some 0) r.bench) i (copy_obeys m l whose.Bench b w (sym q)),
        )
