-- Trees: equality, what stands under a name, and what is gathered.
use Rattle.std.proofs.Common.{◌≡◌, ℕ, true, false, cond, ◌&&◌, T, eqb, List, [], ◌∷◌, ◌++◌, sym, refl, ap, ◌∙◌, inl, inr, arith}
use Rattle.std.proofs.lemmas.Bool.{cases_order, cases_Bool, cases_eq}
use Rattle.model.specs.Trees.{Tree, missing, mark, node, Forest, empty, child, find, kid, Path, at, no_tree, shape, Equal, names, names_of, Below, Ascends, present, is_tree, WellFormed, WellFormedAll, same, same_all, union, select, add, gather}
use Rattle.model.proofs.Lists.{has, below_trans, union_has, union_ascends, select_ascends}

-- `same` decides whether two trees are one.
mutual
  pub same_refl : (t : Tree) → same t t ≡ true
  same_refl missing = refl
  same_refl mark = refl
  same_refl (node f) = same_all_refl f

  pub same_all_refl : (f : Forest) → same_all f f ≡ true
  same_all_refl empty = refl
  same_all_refl (child n t f) = let x = same_refl t in let y = same_all_refl f in grind arith

mutual
  pub same_one : (s t : Tree) → same s t ≡ true → s ≡ t
  same_one missing missing h = refl
  same_one missing mark h = cc
  same_one missing (node g) h = cc
  same_one mark missing h = cc
  same_one mark mark h = refl
  same_one mark (node g) h = cc
  same_one (node f) missing h = cc
  same_one (node f) mark h = cc
  same_one (node f) (node g) h = ap node (same_all_one f g h)

  pub same_all_one : (f g : Forest) → same_all f g ≡ true → f ≡ g
  same_all_one empty empty h = refl
  same_all_one empty (child k u g) h = cc
  same_all_one (child n t f) empty h = cc
  same_all_one (child n t f) (child k u g) h =
      let x = same_one t u in
      let y = same_all_one f g in
      grind arith

pub one_same : (s t : Tree) → s ≡ t → same s t ≡ true
one_same s t e = let x = same_refl s in cc

pub not_same : (s t : Tree) → ¬ (s ≡ t) → same s t ≡ false
not_same s t h = elim (cases_Bool (same s t)) [ inl e ↦ absurd (h (same_one s t e)) | inr e ↦ e ]

-- Below a missing tree, below a mark, along two paths.
pub at_missing : (p : Path) → at missing p ≡ missing
at_missing [] = refl
at_missing (k ∷ p) = at_missing p

pub at_mark : (p : Path) → at mark p ≡ mark
at_mark [] = refl
at_mark (k ∷ p) = at_mark p

pub at-++ : (t : Tree) (p q : Path) → at t (p ++ q) ≡ at (at t p) q
at-++ t [] q = refl
at-++ t (k ∷ p) q = at-++ (kid t k) p q

pub equal_refl : (s t : Tree) → s ≡ t → Equal s t
equal_refl s t e p = cc

pub equal_kid : (s t : Tree) (k : ℕ) → Equal s t → Equal (kid s k) (kid t k)
equal_kid s t k h p = h (k ∷ p)

pub find_below : (f : Forest) (k : ℕ) → Below k (names f) → find f k ≡ missing
find_below empty k h = refl
find_below (child n t f) k h = let ih = find_below f k h.1 in grind arith

pub find_head : (n : ℕ) (t : Tree) (f : Forest) → find (child n t f) n ≡ t
find_head n t f = grind arith

pub find_tail : (k n : ℕ) (t : Tree) (f : Forest) → ¬ (k ≡ n) → find (child n t f) k ≡ find f k
find_tail k n t f h = grind arith

pub has_names : (f : Forest) (k : ℕ) → WellFormedAll f → has k (names f) ≡ present (find f k)
has_names empty k h = refl
has_names (child n t f) k h =
    let ih = has_names f k h.2 in
    let x = h.0 in
    grind arith

pub sound_find : (f : Forest) (k : ℕ) → WellFormedAll f → WellFormed (find f k)
sound_find empty k h = tt
sound_find (child n t f) k h =
    let ih = sound_find f k h.2 in
    let x = h.1 in
    grind arith

pub sound_kid : (t : Tree) (k : ℕ) → WellFormed t → WellFormed (kid t k)
sound_kid missing k h = tt
sound_kid mark k h = tt
sound_kid (node f) k h = sound_find f k h.1

pub sound_at : (t : Tree) (p : Path) → WellFormed t → WellFormed (at t p)
sound_at t [] h = h
sound_at t (k ∷ p) h = sound_at (kid t k) p (sound_kid t k h)

pub there_kind : (t : Tree) → T (present t) → shape t ≡ no_tree → ⊥
there_kind missing h e = h
there_kind mark h e = let z : ◌≡◌ {A = ℕ} 0 1 = cc in omega arith
there_kind (node f) h e = let z : ◌≡◌ {A = ℕ} 0 1 = cc in omega arith

-- Sound trees that are equal are one.
mutual
  pub equal_one : (s t : Tree) → WellFormed s → WellFormed t → Equal s t → s ≡ t
  equal_one missing missing hs ht e = refl
  equal_one missing mark hs ht e = let z = e [] in cc
  equal_one missing (node g) hs ht e = let z = e [] in cc
  equal_one mark missing hs ht e = let z = e [] in cc
  equal_one mark mark hs ht e = refl
  equal_one mark (node g) hs ht e = let z = e [] in cc
  equal_one (node f) missing hs ht e = let z = e [] in cc
  equal_one (node f) mark hs ht e = let z = e [] in cc
  equal_one (node f) (node g) hs ht e = ap node (equal_all_one f g hs ht (λ k p. e (k ∷ p)))

  pub equal_all_one :
      (f g : Forest)
      → Ascends (names f) × WellFormedAll f
      → Ascends (names g) × WellFormedAll g
      → ((k : ℕ) → Equal (find f k) (find g k))
      → f ≡ g
  equal_all_one empty empty hf hg e = refl
  equal_all_one empty (child k u g) hf hg e =
      let z = e k [] in
      let h = find_head k u g in
      absurd (there_kind u hg.1.0 (cc))
  equal_all_one (child n t f) empty hf hg e =
      let z = e n [] in
      let h = find_head n t f in
      absurd (there_kind t hf.1.0 (cc))
  equal_all_one (child n t f) (child k u g) hf hg e =
      let here_f = find_head n t f in
      let here_g = find_head k u g in
      elim (cases_order n k) [
        | inl q ↦
            let tu : t ≡ u = equal_one t u hf.1.1 hg.1.1 (λ p. let z = e n p in cc) in
            let fg : f ≡ g =
            equal_all_one f g (hf.0.1, hf.1.2) (hg.0.1, hg.1.2) (λ j p.
            let z = e j p in
            elim (cases_eq j n) [
              | inl s ↦
                  let bf = find_below f n hf.0.0 in
                  let bg = find_below g k hg.0.0 in
                  cc
              | inr s ↦
                  let tf = find_tail j n t f s in
                  let tg = find_tail j k u g (λ w. s (w ∙ sym q)) in
                  cc
            ])
            in
            cc
        | inr d ↦
            elim d [
              | inl l ↦
                  let z = e n [] in
                  let b = find_below (child k u g) n (l, below_trans n k (names g) l hg.0.0) in
                  absurd (there_kind t hf.1.0 (cc))
              | inr l ↦
                  let z = e k [] in
                  let b = find_below (child n t f) k (l, below_trans k n (names f) l hf.0.0) in
                  absurd (there_kind u hg.1.0 (cc))
            ]
      ]

-- What is gathered.
pub add_names : (k : ℕ) (t : Tree) (f : Forest) → names (add k t f) ≡ cond (present t) (k ∷ names f) (names f)
add_names k missing f = refl
add_names k mark f = refl
add_names k (node g) f = refl

pub add_find : (n : ℕ) (t : Tree) (f : Forest) (k : ℕ) → find (add n t f) k ≡ cond (eqb k n && present t) t (find f k)
add_find n missing f k = grind arith
add_find n mark f k = grind arith
add_find n (node g) f k = grind arith

pub add_sound : (k : ℕ) (t : Tree) (f : Forest) → WellFormed t → WellFormedAll f → WellFormedAll (add k t f)
add_sound k missing f ht hf = hf
add_sound k mark f ht hf = (tt, ht, hf)
add_sound k (node g) f ht hf = (tt, ht, hf)

pub not_there : (t : Tree) → present t ≡ false → t ≡ missing
not_there missing h = refl
not_there mark h = cc
not_there (node f) h = cc

pub gather_names : (g : ℕ → Tree) (ks : List ℕ) → names (gather g ks) ≡ select (λ k. present (g k)) ks
gather_names g [] = refl
gather_names g (k ∷ ks) = let ih = gather_names g ks in let e = add_names k (g k) (gather g ks) in grind arith

pub gather_find : (g : ℕ → Tree) (ks : List ℕ) (k : ℕ) → find (gather g ks) k ≡ cond (has k ks) (g k) missing
gather_find g [] k = refl
gather_find g (n ∷ ks) k =
    let ih = gather_find g ks k in
    let e = add_find n (g n) (gather g ks) k in
    let x = not_there (g n) in
    grind arith

pub gather_sound : (g : ℕ → Tree) (ks : List ℕ) → ((k : ℕ) → WellFormed (g k)) → WellFormedAll (gather g ks)
gather_sound g [] h = tt
gather_sound g (k ∷ ks) h = add_sound k (g k) (gather g ks) (h k) (gather_sound g ks h)

-- A sound tree is what is gathered from its children.
pub within_left : (a b : Tree) (k : ℕ) → has k (names_of a) ≡ true → has k (union (names_of a) (names_of b)) ≡ true
within_left a b k h = let e = union_has k (names_of a) (names_of b) in grind arith

pub within_right : (a b : Tree) (k : ℕ) → has k (names_of b) ≡ true → has k (union (names_of a) (names_of b)) ≡ true
within_right a b k h = let e = union_has k (names_of a) (names_of b) in grind arith

pub sound_names : (t : Tree) → WellFormed t → Ascends (names_of t)
sound_names missing h = tt
sound_names mark h = tt
sound_names (node f) h = h.0

pub all_ascends : (a b : Tree) → WellFormed b → Ascends (union (names_of a) (names_of b))
all_ascends a b h = union_ascends (names_of a) (names_of b) (sound_names b h)

pub gather_ascends : (g : ℕ → Tree) (ks : List ℕ) → Ascends ks → Ascends (names (gather g ks))
gather_ascends g ks h = rw (gather_names g ks) (select_ascends (λ k. present (g k)) ks h)

pub absent : (t : Tree) (k : ℕ) → is_tree t ≡ true → WellFormed t → has k (names_of t) ≡ false → kid t k ≡ missing
absent missing k e h n = refl
absent mark k e h n = cc
absent (node f) k e h n = let z = has_names f k h.1 in not_there (find f k) (cc)

pub regather :
    (t : Tree) (ks : List ℕ)
    → is_tree t ≡ true
    → WellFormed t
    → Ascends ks
    → ((k : ℕ) → has k (names_of t) ≡ true → has k ks ≡ true)
    → node (gather (λ k. kid t k) ks) ≡ t
regather missing ks e h asc w = cc
regather mark ks e h asc w = cc
regather (node f) ks e h asc w =
    ap node
    (equal_all_one (gather (λ k. find f k) ks) f
    (gather_ascends (λ k. find f k) ks asc, gather_sound (λ k. find f k) ks (λ k. sound_find f k h.1))
    h
    (λ k. equal_refl (find (gather (λ k. find f k) ks) k) (find f k) (gather_find (λ k. find f k) ks k ∙ back k)))
  where
    back : (k : ℕ) → cond (has k ks) (find f k) missing ≡ find f k
    back k =
        elim (cases_Bool (has k ks)) [
          | inl y ↦ rw y
          | inr y ↦
              elim (cases_Bool (has k (names f))) [
                | inl z ↦ let u = w k z in cc
                | inr z ↦ rw (y, absent (node f) k refl h z)
              ]
        ]
