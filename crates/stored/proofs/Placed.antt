-- The place of a child.
use Rattle.std.proofs.Common.{◌≡◌, ℕ, ◌+◌, cond, eqb, List, Some, None, Ok, Err, sym, refl, ◌∙◌, inl, inr, arith}
use Rattle.std.proofs.lemmas.Bool.{cases_order, cases_eq, lt-ltb, le-ltb, eq-eqb, ne_eqb, cond-true, cond-false}
use Rattle.model.specs.Trees.{missing, Forest, empty, child, find, names, Below, Ascends, present, WellFormedAll, nodes, nodes_all}
use Rattle.model.proofs.Place.{T_true}
use Rattle.model.proofs.Lists.{below_trans}
use Rattle.model.proofs.Trees.{find_head, find_tail}
use Rattle.stored.specs.Words.{Row}
use Rattle.std.specs.Result.{result_ok}
use Rattle.stored.specs.Lookup.{smaller, from_on, starts, place, Spot, at_of, is_found}
use Rattle.stored.proofs.Places.{second}
use Rattle.stored.proofs.Lookup.{Under, under}

place_below : (f : Forest) (k at : ℕ) → Below k (names f) → place f k at ≡ None
place_below empty k at b = refl
place_below (child n t f) k at b =
    cond-false (eqb k n) (Some at) (place f k (at + nodes t)) (ne_eqb k n (λ e. omega (arith, b.0)))
    ∙ place_below f k (at + nodes t) b.1

pub place_sought : (f : Forest) (k at : ℕ) → Ascends (names f)
    → cond (starts k (from_on k f)) (Some (at + nodes_all (smaller k f))) None ≡ place f k at
place_sought empty k at a = refl
place_sought (child n t f) k at a =
    let ih = place_sought f k (at + nodes t) a.1 in
    let zero : at + 0 ≡ at = omega arith in
    let sum : at + (nodes t + nodes_all (smaller k f)) ≡ at + nodes t + nodes_all (smaller k f) = omega arith in
    elim (cases_order n k) [
      | inl e ↦ rw (le-ltb n k (omega arith), eq-eqb n k e, eq-eqb k n (sym e), zero)
      | inr d ↦
          elim d [
            | inl l ↦ rw (lt-ltb n k l, ne_eqb k n (λ e. omega arith), sum) ih
            | inr l ↦
                rw (le-ltb n k (omega arith), ne_eqb n k (λ e. omega arith), ne_eqb k n (λ e. omega arith))
                (sym (place_below f k (at + nodes t) (below_trans k n (names f) l a.0)))
          ]
    ]

told : (s : Spot) → result_ok s ≡ cond (is_found s) (Some (at_of s)) None
told (Ok i) = refl
told (Err i) = refl

-- A lookup that found the name tells its place.
pub placed : (f : Forest) (k at : ℕ) → Ascends (names f) → (s : Spot) → at_of s ≡ at + nodes_all (smaller k f)
    → is_found s ≡ starts k (from_on k f) → result_ok s ≡ place f k at
placed f k at a s x y = told s ∙ (λ i. cond (y i) (Some (x i)) None) ∙ place_sought f k at a

-- None exactly if there is no such child.
pub place_none : (f : Forest) (k at : ℕ) → WellFormedAll f → place f k at ≡ None → find f k ≡ missing
place_none empty k at w e = refl
place_none (child n t f) k at w e = let ih = place_none f k (at + nodes t) w.2 in grind arith

pub none_place : (f : Forest) (k at : ℕ) → WellFormedAll f → find f k ≡ missing → place f k at ≡ None
none_place empty k at w e = refl
none_place (child n t f) k at w e =
    let ih = none_place f k (at + nodes t) w.2 in
    let there = T_true (present t) w.0 in
    grind arith

-- At a place that is told that child stands.
pub place_stands : {ws : List ℕ} {at : ℕ} {rest : List ℕ} (f : Forest) (k p : ℕ) → Row ws at f rest → place f k at ≡ Some p
    → Under ws p k (find f k)
place_stands empty k p h e = let z : ◌≡◌ {A = ℕ} 0 1 = cc in absurd (omega arith)
place_stands {ws} {at} {rest} (child n t f) k p h e =
    elim (cases_eq k n) [
      | inl q ↦
          let x : at ≡ p = cc (cond-true (eqb k n) (Some at) (place f k (at + nodes t)) (eq-eqb k n q)) in
          rw (q, find_head n t f, ← x) (under h)
      | inr q ↦
          let later = sym (cond-false (eqb k n) (Some at) (place f k (at + nodes t)) (ne_eqb k n q)) ∙ e in
          rw (find_tail k n t f q) (place_stands {at = at + nodes t} f k p (second h) later)
    ]
