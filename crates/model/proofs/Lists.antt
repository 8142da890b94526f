-- Ascending lists of names, by their members.
use Rattle.std.proofs.Common.{◌≡◌, ℕ, ◌<◌, Bool, false, ◌&&◌, ◌||◌, eqb, List, [], ◌∷◌, refl, inl, inr, arith}
use Rattle.std.proofs.lemmas.Bool.{cases_order}
use Rattle.model.specs.Trees.{Below, Ascends, insert, union, select}

abbrev pub has : ℕ → List ℕ → Bool
has k [] = false
has k (n ∷ ns) = eqb k n || has k ns

pub below_has : (k : ℕ) (ns : List ℕ) → Below k ns → has k ns ≡ false
below_has k [] h = refl
below_has k (n ∷ ns) h =
    let ih = below_has k ns h.1 in
    grind arith

pub below_trans : (j k : ℕ) (ns : List ℕ) → j < k → Below k ns → Below j ns
below_trans j k [] l h = tt
below_trans j k (n ∷ ns) l h = (omega arith, below_trans j k ns l h.1)

pub insert_has : (j k : ℕ) (ns : List ℕ) → has j (insert k ns) ≡ (eqb j k || has j ns)
insert_has j k [] = refl
insert_has j k (n ∷ ns) =
    let ih = insert_has j k ns in
    grind arith

pub insert_below : (j k : ℕ) (ns : List ℕ) → j < k → Below j ns → Below j (insert k ns)
insert_below j k [] l h = (l, tt)
insert_below j k (n ∷ ns) l h =
    let ih = insert_below j k ns l h.1 in
    grind arith

pub insert_ascends : (k : ℕ) (ns : List ℕ) → Ascends ns → Ascends (insert k ns)
insert_ascends k [] h = (tt, tt)
insert_ascends k (n ∷ ns) h =
    let ih = insert_ascends k ns h.1 in
    let more : n < k → Below n (insert k ns) = λ l. insert_below n k ns l h.0 in
    let less : k < n → Below k ns = λ l. below_trans k n ns l h.0 in
    elim (cases_order k n) [
      | inl e ↦ grind arith
      | inr d ↦
          elim d [
            | inl l ↦ let fact = less l in grind arith
            | inr l ↦ let fact = more l in grind arith
          ]
    ]

pub union_has : (j : ℕ) (ks ns : List ℕ) → has j (union ks ns) ≡ (has j ks || has j ns)
union_has j [] ns = refl
union_has j (k ∷ ks) ns =
    let ih = union_has j ks ns in
    let e = insert_has j k (union ks ns) in
    grind arith

pub union_ascends : (ks ns : List ℕ) → Ascends ns → Ascends (union ks ns)
union_ascends [] ns h = h
union_ascends (k ∷ ks) ns h = insert_ascends k (union ks ns) (union_ascends ks ns h)

pub select_has : (test : ℕ → Bool) (j : ℕ) (ns : List ℕ) → has j (select test ns) ≡ (test j && has j ns)
select_has test j [] = grind arith
select_has test j (n ∷ ns) =
    let ih = select_has test j ns in
    grind arith

pub select_below : (test : ℕ → Bool) (j : ℕ) (ns : List ℕ) → Below j ns → Below j (select test ns)
select_below test j [] h = tt
select_below test j (n ∷ ns) h =
    let ih = select_below test j ns h.1 in
    grind arith

pub select_ascends : (test : ℕ → Bool) (ns : List ℕ) → Ascends ns → Ascends (select test ns)
select_ascends test [] h = tt
select_ascends test (n ∷ ns) h =
    let ih = select_ascends test ns h.1 in
    let e = select_below test n ns h.0 in
    grind arith

pub select_cong : (s t : ℕ → Bool) (ns : List ℕ) → ((k : ℕ) → s k ≡ t k) → select s ns ≡ select t ns
select_cong s t [] h = refl
select_cong s t (n ∷ ns) h =
    let ih = select_cong s t ns h in
    let e = h n in
    cc

pub ascends_ext : (xs ys : List ℕ) → Ascends xs → Ascends ys → ((k : ℕ) → has k xs ≡ has k ys) → xs ≡ ys
ascends_ext [] [] hx hy e = refl
ascends_ext [] (y ∷ ys) hx hy e = let z = e y in grind arith
ascends_ext (x ∷ xs) [] hx hy e = let z = e x in grind arith
ascends_ext (x ∷ xs) (y ∷ ys) hx hy e =
    let tails : x ≡ y → (k : ℕ) → has k xs ≡ has k ys =
    λ s k. let fx = below_has x xs hx.0 in let fy = below_has y ys hy.0 in let ek = e k in
    elim (cases_order k x) [ inl q ↦ let px : has k xs ≡ false = cc in let py : has k ys ≡ false = cc in cc | inr q ↦ grind arith ]
    in
    elim (cases_order x y) [
      | inl s ↦ let ih = ascends_ext xs ys hx.1 hy.1 (tails s) in cc
      | inr d ↦
          elim d [
            | inl l ↦ let z = e x in let f = below_has x ys (below_trans x y ys l hy.0) in grind arith
            | inr l ↦ let z = e y in let f = below_has y xs (below_trans y x xs l hx.0) in grind arith
          ]
    ]
