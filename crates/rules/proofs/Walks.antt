-- What a walk over a list of names tells.
use Rattle.std.proofs.Common.{◌≡◌, ℕ, zero, suc, ◌+◌, ◌<◌, Bool, true, false, ◌&&◌, ltb, leb, List, [], ◌∷◌, length, get_or, refl, sym, ap, ◌∙◌, subst, arith}
use Rattle.std.specs.List.{list_all, IsAllAdjacentAnswer, AllAdjacentBelow}
use Rattle.model.specs.Rulebooks.{ascending, up_to}

pub all_up_to : (n : ℕ) (ks : List ℕ) → list_all (λ k. leb k n) ks ≡ up_to n ks
all_up_to n [] = refl
all_up_to n (k ∷ ks) = ap (λ b. leb k n && b) (all_up_to n ks)

next : (i : ℕ) → suc i + 1 ≡ suc (i + 1)
next i = omega arith

none : (b : Bool) → (b && false) ≡ false
none true = refl
none false = refl

-- Each name is below the next.
each : (ks : List ℕ) → AllAdjacentBelow (λ k n. true ≡ ltb k n) ks (length ks) → ascending ks ≡ true
each [] h = refl
each (k ∷ []) h = refl
each (k ∷ n ∷ ns) h =
    let here : true ≡ ltb k n = h 0 0 (omega arith) in
    let there = each (n ∷ ns) (λ i d l. subst (λ j. true ≡ ltb (get_or (n ∷ ns) i d) (get_or (k ∷ n ∷ ns) j d)) (next i) (h (suc i) d (omega arith))) in
    rw (sym here, there)

-- A name is not below the next.
not_each : (ks : List ℕ) (i : ℕ) → i + 1 < length ks → ((d : ℕ) → false ≡ ltb (get_or ks i d) (get_or ks (i + 1) d)) → ascending ks ≡ false
not_each [] i l h = absurd (omega arith)
not_each (k ∷ []) i l h = absurd (omega arith)
not_each (k ∷ n ∷ ns) zero l h = let here : false ≡ ltb k n = h 0 in rw (sym here)
not_each (k ∷ n ∷ ns) (suc i) l h =
    let there = not_each (n ∷ ns) i (omega arith) (λ d. subst (λ j. false ≡ ltb (get_or (n ∷ ns) i d) (get_or (k ∷ n ∷ ns) j d)) (next i) (h d)) in
    ap (λ b. ltb k n && b) there ∙ none (ltb k n)

pub ascending_told : (ks : List ℕ) (r : Bool) → IsAllAdjacentAnswer (λ k n b. b ≡ ltb k n) ks r → r ≡ ascending ks
ascending_told ks true h = sym (each ks h)
ascending_told ks false h = sym (not_each ks h.0 h.1 h.2)
