-- Files that are read and then tested further.
use Rattle.std.proofs.Common.{◌≡◌, ℕ, Some, None, Ok, Err, Option, Result, List, sym, refl, ap, ◌∙◌, arith}
use Rattle.model.specs.Trees.{Tree}
use Rattle.model.specs.Meaning.{Meaning, Obeys}
use Rattle.model.specs.Faults.{first_fault}
use Rattle.model.proofs.Faults.{obeys_from}
use Rattle.refusals.specs.declared.Refusal.{Refusal}
use Rattle.refusals.specs.declared.Whose.{Whose}
use Rattle.records.specs.Reading.{says, then}
use Rattle.obeying.specs.Lawful.{copy_of, faulty, lawful}
use Rattle.loading.specs.Loads.{within, copy_loaded}

lawful_same : (m : Meaning) (c : Option ℕ) (w : Whose) (t u : Tree) → lawful m c w t ≡ Ok u → u ≡ t
lawful_same m c w t u h = go (first_fault m c t) h
  where
    go : (o : Option ℕ) → faulty w t o ≡ Ok u → u ≡ t
    go None h = cc
    go (Some n) h = let z : ◌≡◌ {A = ℕ} 0 1 = cc in absurd (omega arith)

lawful_obeys : (m : Meaning) (c : Option ℕ) (w : Whose) (t : Tree) → lawful m c w t ≡ Ok t → Obeys m c t
lawful_obeys m c w t h = go (first_fault m c t) refl h
  where
    go : (o : Option ℕ) → o ≡ first_fault m c t → faulty w t o ≡ Ok t → Obeys m c t
    go None q h = obeys_from m c t 0 (sym q)
    go (Some n) q h = let z : ◌≡◌ {A = ℕ} 0 1 = cc in absurd (omega arith)

-- A copy that loads obeys.
pub copy_obeys : (m : Meaning) (l : ℕ) (w : Whose) (bs : List ℕ) (t : Tree) → copy_loaded m l w bs ≡ Ok t → Obeys m (Some 0) t
copy_obeys m l w bs t h = go (then (says bs (copy_of w 0)) (within l w)) h
  where
    go : (x : Result Tree Refusal) → then x (lawful m (Some 0) w) ≡ Ok t → Obeys m (Some 0) t
    go (Err d) h = let z : ◌≡◌ {A = ℕ} 0 1 = cc in absurd (omega arith)
    go (Ok u) h =
        let e = lawful_same m (Some 0) w u t h in
        lawful_obeys m (Some 0) w t (ap (lawful m (Some 0) w) e ∙ h)
