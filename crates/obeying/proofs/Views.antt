-- The tree of a view, tested from its root.
use Rattle.std.proofs.Common.{◌≡◌, ℕ, ◌≤◌, List, [], ◌∷◌, length, Some, None, Ok, Option, Result, sym, refl, ap, ◌∙◌, subst, arith}
use Rattle.model.specs.Trees.{Tree, missing, mark, node, names, WellFormed, nodes}
use Rattle.model.specs.Meaning.{Meaning, Obeys}
use Rattle.model.specs.Faults.{first_fault}
use Rattle.model.proofs.Faults.{obeys_from}
use Rattle.refusals.specs.declared.Refusal.{Refusal}
use Rattle.refusals.specs.declared.Whose.{Whose}
use Rattle.records.specs.declared.Entry.{Entry}
use Rattle.records.specs.declared.view.View.{View}
use Rattle.records.specs.Bytes.{entry, entry_of, entries_of}
use Rattle.records.specs.Reading.{passed}
use Rattle.records.specs.Writing.{tell}
use Rattle.records.specs.Views.{tree_of}
use Rattle.records.proofs.Views.{tells, count_is}
use Rattle.obeying.specs.Heading.{Heads}
use Rattle.obeying.specs.Lawful.{faulty, lawful}

-- The first record is that of the root, and all others are those of the nodes below it.
pub rooted : (v : View) {r : List ℕ} {under : List (List ℕ)} {e : Entry} → v.records.now ≡ r ∷ under → e ≡ entry_of r → Heads e (entries_of under) (tree_of v) []
rooted v {r} {under} {e} p q = go (tree_of v) (tells v).well_formed (ap (λ x. x ∷ entries_of under) q ∙ sym (ap entries_of p) ∙ (tells v).told)
  where
    go : (t : Tree) → WellFormed t → e ∷ entries_of under ≡ tell t 0 [] → Heads e (entries_of under) t []
    go missing s h = absurd (let z : ◌≡◌ {A = ℕ} 0 1 = cc in omega arith)
    go mark s h = let i : e ≡ entry 0 0 1 0 = cc in let n : e.name ≡ 0 = ap (λ (x : Entry). x.name) i in record { is_present = tt; well_formed = s; told = subst (λ k. e ∷ entries_of under ≡ tell mark k []) (sym n) h }
    go (node f) s h = let i : e ≡ entry 0 (length (names f)) 0 0 = cc in let n : e.name ≡ 0 = ap (λ (x : Entry). x.name) i in record { is_present = tt; well_formed = s; told = subst (λ k. e ∷ entries_of under ≡ tell (node f) k []) (sym n) h }

pub few : (v : View) → nodes (tree_of v) ≤ 4096
few v = (tells v).few

pub empty_view : (m : Meaning) (c : Option ℕ) (v : View) → length v.records.now ≡ 0 → None ≡ first_fault m c (tree_of v)
empty_view m c v l = go (tree_of v) (sym (count_is v) ∙ l)
  where
    go : (t : Tree) → nodes t ≡ 0 → None ≡ first_fault m c t
    go missing n = refl
    go mark n = absurd (omega arith)
    go (node f) n = absurd (omega arith)

-- A tree that is lawful obeys.
pub obeys : (m : Meaning) (c : Option ℕ) (whose : Whose) (t : Tree) → ◌≡◌ {A = Result (Unit {0}) Refusal} (Ok tt) (passed tt (lawful m c whose t)) → Obeys m c t
obeys m c whose t h = go (first_fault m c t) refl h
  where
    go : (o : Option ℕ) → first_fault m c t ≡ o → ◌≡◌ {A = Result (Unit {0}) Refusal} (Ok tt) (passed tt (faulty whose t o)) → Obeys m c t
    go None q h = obeys_from m c t 0 q
    go (Some n) q h = let z : ◌≡◌ {A = ℕ} 0 1 = cc in absurd (omega arith)
