-- Bytes cut into records.
use Rattle.std.proofs.Common.{◌≡◌, ℕ, zero, suc, ◌+◌, ◌-◌, ◌*◌, ◌/◌, ◌<◌, ◌≤◌, List, [], ◌∷◌, length, get_or, take, drop, refl, ap, ◌∙◌, arith, get_or-drop, drop-drop, take-take, length-take, length-drop}
use Rattle.std.proofs.lemmas.List.{drop-take, get_or-take}
use Rattle.std.specs.Simd.{first_chunks}
use Rattle.records.specs.Bytes.{entry_at, entry_of, entries, entries_of}

pub length_chunks : (n : ℕ) (bs : List ℕ) → length (first_chunks 8 n bs) ≡ n
length_chunks zero bs = refl
length_chunks (suc n) bs = ap suc (length_chunks n (drop 8 bs))

-- What stands behind so many chunks does not matter.
pub chunks_of_front : (n m : ℕ) (bs : List ℕ) → 8 * n ≤ m → first_chunks 8 n (take m bs) ≡ first_chunks 8 n bs
chunks_of_front zero m bs l = refl
chunks_of_front (suc n) m bs l =
    let p : m ≡ 8 + (m - 8) = omega arith in
    let a : take 8 (take m bs) ≡ take 8 bs = take-take 8 m bs (omega arith) in
    let b : drop 8 (take m bs) ≡ take (m - 8) (drop 8 bs) = ap (λ k. drop 8 (take k bs)) p ∙ drop-take 8 (m - 8) bs in
    ap (λ x. x ∷ first_chunks 8 n (drop 8 (take m bs))) a
    ∙ ap (λ x. take 8 bs ∷ first_chunks 8 n x) b
    ∙ ap (λ x. take 8 bs ∷ x) (chunks_of_front n (m - 8) (drop 8 bs) (omega arith))

-- A byte of a record, and the record.
same_entry : (bs cs : List ℕ) (at : ℕ) → ((j : ℕ) → j < 8 → get_or bs j 0 ≡ get_or cs (at + j) 0) → entry_of bs ≡ entry_at cs at
same_entry bs cs at h =
    let z : at + 0 ≡ at = omega arith in
    let b0 : get_or bs 0 0 ≡ get_or cs at 0 = h 0 (omega arith) ∙ ap (λ k. get_or cs k 0) z in
    let p3 : at + 3 ≡ at + 2 + 1 = omega arith in
    let b3 : get_or bs 3 0 ≡ get_or cs (at + 2 + 1) 0 = h 3 (omega arith) ∙ ap (λ k. get_or cs k 0) p3 in
    let p5 : at + 5 ≡ at + 4 + 1 = omega arith in
    let b5 : get_or bs 5 0 ≡ get_or cs (at + 4 + 1) 0 = h 5 (omega arith) ∙ ap (λ k. get_or cs k 0) p5 in
    let b1 = h 1 (omega arith) in
    let b2 = h 2 (omega arith) in
    let b4 = h 4 (omega arith) in
    let b6 = h 6 (omega arith) in
    let b7 = h 7 (omega arith) in
    λ i. record { name = 65536 * (256 * b0 i + b1 i) + (256 * b2 i + b3 i); children = 256 * b4 i + b5 i; kind = b6 i; last = b7 i }

pub entry_dropped : (bs : List ℕ) (at : ℕ) → entry_of (drop at bs) ≡ entry_at bs at
entry_dropped bs at = same_entry (drop at bs) bs at (λ j l. get_or-drop at bs j 0)

entry_cut : (bs : List ℕ) (at : ℕ) → entry_of (take 8 (drop at bs)) ≡ entry_at bs at
entry_cut bs at = same_entry (take 8 (drop at bs)) bs at (λ j l. get_or-take 8 (drop at bs) j 0 l ∙ get_or-drop at bs j 0)

pub entries_cut : (n : ℕ) (bs : List ℕ) (at : ℕ) → entries_of (first_chunks 8 n (drop at bs)) ≡ entries n bs at
entries_cut zero bs at = refl
entries_cut (suc n) bs at =
    ap (λ e. e ∷ entries_of (first_chunks 8 n (drop 8 (drop at bs)))) (entry_cut bs at)
    ∙ ap (λ l. entry_at bs at ∷ entries_of (first_chunks 8 n l)) (drop-drop 8 at bs)
    ∙ ap (λ l. entry_at bs at ∷ l) (entries_cut n bs (at + 8))

pub length_entries_of : (rs : List (List ℕ)) → length (entries_of rs) ≡ length rs
length_entries_of [] = refl
length_entries_of (r ∷ rs) = ap suc (length_entries_of rs)

-- The records before a trailer, cut from what stands before it.
pub cut_front : (bs front : List ℕ) (n : ℕ) → front ≡ take (length bs - 8) bs → length front + 8 ≡ length bs → 8 * n + 8 ≤ length bs
    → let s = take (length front - (length front - 8 * n)) (drop (length front - 8 * n) front) in
    first_chunks 8 (length s / 8) s ≡ first_chunks 8 n (drop (length bs - (8 * n + 8)) bs)
cut_front bs front n f l e =
    let p = length bs - (8 * n + 8) in
    let a : length front - 8 * n ≡ p = omega arith in
    let b : length front - (length front - 8 * n) ≡ 8 * n = omega arith in
    let d : length bs - 8 ≡ p + 8 * n = omega arith in
    let s = take (length front - (length front - 8 * n)) (drop (length front - 8 * n) front) in
    let is : s ≡ take (8 * n) (drop p bs) =
    ap (λ k. take k (drop (length front - 8 * n) front)) b ∙ ap (λ k. take (8 * n) (drop k front)) a ∙ ap (λ x. take (8 * n) (drop p x)) f
    ∙ ap (λ k. take (8 * n) (drop p (take k bs))) d ∙ ap (take (8 * n)) (drop-take p (8 * n) bs) ∙ take-take (8 * n) (8 * n) (drop p bs) (omega arith) in
    let c : length s / 8 ≡ n = omega (arith, ap length is, length-take (8 * n) (drop p bs), length-drop p bs) in
    ap (λ k. first_chunks 8 k s) c ∙ ap (first_chunks 8 n) is ∙ chunks_of_front n (8 * n) (drop p bs) (omega arith)
