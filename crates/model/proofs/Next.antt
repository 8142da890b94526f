-- The next names in words; two lists of names merged.
use Rattle.std.proofs.Common.{◌≡◌, ℕ, ◌<◌, true, false, not, ◌&&◌, ◌||◌, eqb, ◌⊎◌, List, [], ◌∷◌, sym, ap, ◌∙◌, inl, inr, arith}
use Rattle.std.proofs.lemmas.Bool.{cases_Bool, eqb-true, eq-eqb, and_parts, or_cases, not-true}
use Rattle.model.specs.Trees.{Tree, missing, mark, node, kid, Equal, names_of, Among, Below, Ascends, present, is_tree, WellFormed, same, union, select}
use Rattle.model.specs.Safety.{is_next}
use Rattle.model.specs.Theorems.{NextAre, NextNamesAsTold}
use Rattle.model.proofs.Lists.{has, below_trans, insert_has, insert_below, union_has, union_ascends, select_has, select_ascends, ascends_ext}
use Rattle.model.proofs.Trees.{not_same, one_same, equal_one, equal_refl, has_names, sound_kid, not_there, all_ascends, within_left, within_right}
use Rattle.model.proofs.Place.{T_true}

pub has_among : (k : ℕ) (ns : List ℕ) → has k ns ≡ true → Among k ns
has_among k [] e = let z : ◌≡◌ {A = ℕ} 0 1 = cc in absurd (omega arith)
has_among k (n ∷ ns) e =
    elim (cases_Bool (eqb k n)) [
      | inl q ↦ inl (eqb-true k n q)
      | inr q ↦ inr (has_among k ns (rw q at e))
    ]

pub among_has : (k : ℕ) (ns : List ℕ) → Among k ns → has k ns ≡ true
among_has k [] h = absurd h
among_has k (n ∷ ns) (inl e) = let q = eq-eqb k n e in grind arith
among_has k (n ∷ ns) (inr h) = let q = among_has k ns h in grind arith

kid_there : (t : Tree) (k : ℕ) → is_tree t ≡ true → WellFormed t → has k (names_of t) ≡ present (kid t k)
kid_there missing k e h = cc
kid_there mark k e h = cc
kid_there (node f) k e h = has_names f k h.1

union_below : (n : ℕ) (ks ns : List ℕ) → Below n ks → Below n ns → Below n (union ks ns)
union_below n [] ns hk hn = hn
union_below n (k ∷ ks) ns hk hn = insert_below n k (union ks ns) hk.0 (union_below n ks ns hk.1 hn)

-- k is a next name of x beside y
abbrev Said : Tree → Tree → Tree → ℕ → Type 0
Said o x y k =
    (Among k (names_of x) × (¬ Equal (kid x k) (kid o k)))
    ⊎ ((Among k (names_of y) × (kid o k ≡ missing)) ⊎ (Among k (names_of x) × Among k (names_of y)))

module _ (o x y : Tree) (so : WellFormed o) (sx : WellFormed x) (sy : WellFormed y) (tx : is_tree x ≡ true) (ty : is_tree y ≡ true) where
  in_x : (k : ℕ) → present (kid x k) ≡ true → Among k (names_of x)
  in_x k e = has_among k (names_of x) (kid_there x k tx sx ∙ e)

  in_y : (k : ℕ) → present (kid y k) ≡ true → Among k (names_of y)
  in_y k e = has_among k (names_of y) (kid_there y k ty sy ∙ e)

  forth : (k : ℕ) → is_next o x y k ≡ true → Said o x y k
  forth k e =
      elim (or_cases ((present (kid x k) && not (same (kid x k) (kid o k))) || (present (kid y k) && not (present (kid o k)))) (present (kid x k) && present (kid y k)) e) [
        | inl p ↦
            elim (or_cases (present (kid x k) && not (same (kid x k) (kid o k))) (present (kid y k) && not (present (kid o k))) p) [
              | inl q ↦
                  let w = and_parts (present (kid x k)) (not (same (kid x k) (kid o k))) q in
                  let n = not-true (same (kid x k) (kid o k)) w.1 in
                  inl (in_x k w.0, λ z. let u = one_same (kid x k) (kid o k) (equal_one (kid x k) (kid o k) (sound_kid x k sx) (sound_kid o k so) z) in let f : ◌≡◌ {A = ℕ} 0 1 = cc in omega arith)
              | inr q ↦
                  let w = and_parts (present (kid y k)) (not (present (kid o k))) q in
                  inr (inl (in_y k w.0, not_there (kid o k) (not-true (present (kid o k)) w.1)))
            ]
        | inr p ↦
            let w = and_parts (present (kid x k)) (present (kid y k)) p in
            inr (inr (in_x k w.0, in_y k w.1))
      ]

  there_x : (k : ℕ) → Among k (names_of x) → present (kid x k) ≡ true
  there_x k h = sym (kid_there x k tx sx) ∙ among_has k (names_of x) h

  there_y : (k : ℕ) → Among k (names_of y) → present (kid y k) ≡ true
  there_y k h = sym (kid_there y k ty sy) ∙ among_has k (names_of y) h

  back : (k : ℕ) → Said o x y k → is_next o x y k ≡ true
  back k (inl (h, n)) =
      let u = there_x k h in
      let v = not_same (kid x k) (kid o k) (λ e. n (equal_refl (kid x k) (kid o k) e)) in
      grind arith
  back k (inr (inl (h, n))) =
      let u = there_y k h in
      let v : present (kid o k) ≡ false = ap present n in
      grind arith
  back k (inr (inr (h, n))) =
      let u = there_x k h in
      let v = there_y k n in
      grind arith

  within : (ks : List ℕ) → ((k : ℕ) → has k (names_of x) ≡ true → has k ks ≡ true) → ((k : ℕ) → has k (names_of y) ≡ true → has k ks ≡ true) → (k : ℕ) → Said o x y k → has k ks ≡ true
  within ks wx wy k (inl (h, n)) = wx k (among_has k (names_of x) h)
  within ks wx wy k (inr (inl (h, n))) = wy k (among_has k (names_of y) h)
  within ks wx wy k (inr (inr (h, n))) = wx k (among_has k (names_of x) h)

  next_are :
      (ks : List ℕ)
      → Ascends ks
      → ((k : ℕ) → has k (names_of x) ≡ true → has k ks ≡ true)
      → ((k : ℕ) → has k (names_of y) ≡ true → has k ks ≡ true)
      → NextAre o x y (select (is_next o x y) ks)
  next_are ks asc wx wy =
      record {
        ascend = select_ascends (is_next o x y) ks asc;
        among =
            λ k. (
              λ h.
                  forth k
                  (and_parts (is_next o x y k) (has k ks)
                  (sym (select_has (is_next o x y) k ks) ∙ among_has k (select (is_next o x y) ks) h)).0,
              λ s.
                  has_among k (select (is_next o x y) ks)
                  (select_has (is_next o x y) k ks ∙ (let u = back k s in let v = within ks wx wy k s in rw (u, v))),
            );
      }

pub next_names_as_told : NextNamesAsTold
next_names_as_told o a b so sa sb ta tb =
    let p = T_true (is_tree a) ta in
    let q = T_true (is_tree b) tb in
    let asc = all_ascends a b sb in (
      next_are o a b so sa sb p q (union (names_of a) (names_of b)) asc (within_left a b) (within_right a b),
      next_are o b a so sb sa q p (union (names_of a) (names_of b)) asc (within_right a b) (within_left a b),
    )

-- The names of two ascending lists together, met in order.
pub union_left :
    (x y : ℕ) (xs ys : List ℕ)
    → x < y
    → Ascends (x ∷ xs)
    → Ascends (y ∷ ys)
    → union (x ∷ xs) (y ∷ ys) ≡ x ∷ union xs (y ∷ ys)
union_left x y xs ys l hx hy =
    ascends_ext (union (x ∷ xs) (y ∷ ys)) (x ∷ union xs (y ∷ ys)) (union_ascends (x ∷ xs) (y ∷ ys) hy)
    (union_below x xs (y ∷ ys) hx.0 (l, below_trans x y ys l hy.0), union_ascends xs (y ∷ ys) hy)
    (λ k. insert_has k x (union xs (y ∷ ys)))

pub union_both :
    (x y : ℕ) (xs ys : List ℕ)
    → x ≡ y
    → Ascends (x ∷ xs)
    → Ascends (y ∷ ys)
    → union (x ∷ xs) (y ∷ ys) ≡ x ∷ union xs ys
union_both x y xs ys e hx hy =
    ascends_ext (union (x ∷ xs) (y ∷ ys)) (x ∷ union xs ys) (union_ascends (x ∷ xs) (y ∷ ys) hy)
    (union_below x xs ys hx.0 (rw e hy.0), union_ascends xs ys hy.1)
    (λ k. let u = union_has k (x ∷ xs) (y ∷ ys) in let v = union_has k xs ys in grind arith)

pub union_right :
    (x y : ℕ) (xs ys : List ℕ)
    → y < x
    → Ascends (x ∷ xs)
    → Ascends (y ∷ ys)
    → union (x ∷ xs) (y ∷ ys) ≡ y ∷ union (x ∷ xs) ys
union_right x y xs ys l hx hy =
    ascends_ext (union (x ∷ xs) (y ∷ ys)) (y ∷ union (x ∷ xs) ys) (union_ascends (x ∷ xs) (y ∷ ys) hy)
    (union_below y (x ∷ xs) ys (l, below_trans y x xs l hx.0) hy.0, union_ascends (x ∷ xs) ys hy.1)
    (λ k. let u = union_has k (x ∷ xs) (y ∷ ys) in let v = union_has k (x ∷ xs) ys in grind arith)
