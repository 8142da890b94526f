-- A run of consecutive numbers that a walk has just passed.
use Rattle.std.proofs.Common.{◌≡◌, ℕ, zero, suc, ◌+◌, ◌<◌, ◌≤◌, true, false, List, [], ◌∷◌, length, get_or, drop, refl, add-one, arith}
use Rattle.std.proofs.lemmas.List.{drop_more, drop_all}
use Rattle.std.proofs.lemmas.Bool.Decides.{nat_tests}
use Rattle.model.specs.Rulebooks.{four_consecutive}

-- The list with the n numbers below m put before it.
abbrev pub run_up : ℕ → ℕ → List ℕ → List ℕ
run_up zero m ks = ks
run_up (suc n) zero ks = ks
run_up (suc n) (suc m) ks = run_up n m (m ∷ ks)

-- A name that does not go on with a run of fewer than four ends it.
one_ends : (m k : ℕ) (ks : List ℕ) → (k ≡ suc m → ⊥) → four_consecutive (m ∷ k ∷ ks) ≡ four_consecutive (k ∷ ks)
one_ends m k [] h = refl
one_ends m k (a ∷ []) h = refl
one_ends m k (a ∷ b ∷ ks) h = grind (arith, nat_tests)

two_end : (m k : ℕ) (ks : List ℕ) → (k ≡ suc (suc m) → ⊥) → four_consecutive (m ∷ suc m ∷ k ∷ ks) ≡ four_consecutive (k ∷ ks)
two_end m k [] h = refl
two_end m k (a ∷ ks) h = let e = one_ends (suc m) k (a ∷ ks) h in grind (arith, nat_tests)

three_end :
    (m k : ℕ) (ks : List ℕ)
    → (k ≡ suc (suc (suc m)) → ⊥)
    → four_consecutive (m ∷ suc m ∷ suc (suc m) ∷ k ∷ ks) ≡ four_consecutive (k ∷ ks)
three_end m k ks h = let e = two_end (suc m) k ks h in grind (arith, nat_tests)

run_ends :
    (n m k : ℕ) (ks : List ℕ)
    → n < 4
    → (k ≡ m → ⊥)
    → four_consecutive (run_up n m (k ∷ ks)) ≡ four_consecutive (k ∷ ks)
run_ends zero m k ks f h = refl
run_ends (suc zero) zero k ks f h = refl
run_ends (suc zero) (suc m) k ks f h = one_ends m k ks h
run_ends (suc (suc zero)) zero k ks f h = refl
run_ends (suc (suc zero)) (suc zero) k ks f h = one_ends 0 k ks h
run_ends (suc (suc zero)) (suc (suc m)) k ks f h = two_end m k ks h
run_ends (suc (suc (suc zero))) zero k ks f h = refl
run_ends (suc (suc (suc zero))) (suc zero) k ks f h = one_ends 0 k ks h
run_ends (suc (suc (suc zero))) (suc (suc zero)) k ks f h = two_end 0 k ks h
run_ends (suc (suc (suc zero))) (suc (suc (suc m))) k ks f h = three_end m k ks h
run_ends (suc (suc (suc (suc n)))) m k ks f h = absurd (omega arith)

-- Fewer than four names have no four in a row.
few : (ks : List ℕ) → length ks < 4 → four_consecutive ks ≡ false
few [] h = refl
few (a ∷ []) h = refl
few (a ∷ b ∷ []) h = refl
few (a ∷ b ∷ c ∷ []) h = refl
few (a ∷ b ∷ c ∷ d ∷ ks) h = absurd (omega arith)

run_length : (n m : ℕ) (ks : List ℕ) → length (run_up n m ks) ≤ n + length ks
run_length zero m ks = omega arith
run_length (suc n) zero ks = omega arith
run_length (suc n) (suc m) ks = let l = run_length n m (m ∷ ks) in omega arith

pub run_of_four : (m : ℕ) (ks : List ℕ) → 4 ≤ m → four_consecutive (run_up 4 m ks) ≡ true
run_of_four (suc (suc (suc (suc m)))) ks l = grind (arith, nat_tests)
run_of_four (suc (suc (suc zero))) ks l = absurd (omega arith)
run_of_four (suc (suc zero)) ks l = absurd (omega arith)
run_of_four (suc zero) ks l = absurd (omega arith)
run_of_four zero ks l = absurd (omega arith)

-- One step of the walk: the run goes on, or another begins.
module _ (ks : List ℕ) (i n m k : ℕ) (h : i < length ks) (e : k ≡ get_or ks i 0) where
  pub run_goes_on :
      k ≡ m → four_consecutive (run_up n m (drop i ks)) ≡ four_consecutive (run_up (n + 1) (k + 1) (drop (i + 1) ks))
  run_goes_on g = rw (drop_more ks i 0 h, add-one n, add-one k, ← e, g)

  pub run_begins :
      n < 4
      → (k ≡ m → ⊥)
      → four_consecutive (run_up n m (drop i ks)) ≡ four_consecutive (run_up 1 (k + 1) (drop (i + 1) ks))
  run_begins f g = rw (drop_more ks i 0 h, add-one k, ← e) (run_ends n m k (drop (i + 1) ks) f g)

pub run_past : (ks : List ℕ) (i n m : ℕ) → length ks ≤ i → n < 4 → four_consecutive (run_up n m (drop i ks)) ≡ false
run_past ks i n m h f = rw (drop_all i ks h) (few (run_up n m []) (let l = run_length n m [] in omega arith))
