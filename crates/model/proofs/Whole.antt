-- The outcome's trees as wholes: sound, obeying and small.
use Rattle.std.proofs.Common.{◌≡◌, ℕ, ◌+◌, ◌≤◌, max, Bool, true, false, cond, T, eqb, ◌⊎◌, List, [], ◌∷◌, Option, sym, refl, ap, ◌∙◌, subst, inl, inr, arith}
use Rattle.model.specs.Trees.{Tree, missing, mark, node, Forest, empty, child, find, kid, names, names_of, Ascends, present, is_tree, nodes, nodes_all, depth, depth_all, Named, NamedAll, add, gather}
use Rattle.model.specs.Meaning.{Meaning, class_under, allowed, Obeys, ObeyAll}
use Rattle.model.specs.Round.{Outcome, outcome, steps}
use Rattle.model.specs.Safety.{Ready}
use Rattle.model.specs.Theorems.{MadeOf}
use Rattle.std.proofs.lemmas.Bool.{cases_Bool, eqb-true}
use Rattle.model.proofs.Lists.{has, union_has}
use Rattle.model.proofs.Trees.{gather_sound, gather_ascends, all_ascends, regather, within_left, within_right, not_there}
use Rattle.model.proofs.Steps.{came, all, Way, agreed, took_bench, took_field, still_marked, one_gone, joined, refused}
use Rattle.model.proofs.Place.{ready_kid, way_at, true_T, T_true, when_agreed, unmarked, obeys_kid}

no_way : is_tree missing ≡ true → ⊥
no_way e = let z : ◌≡◌ {A = ℕ} 0 1 = cc in omega arith

no_way' : is_tree mark ≡ true → ⊥
no_way' e = let z : ◌≡◌ {A = ℕ} 0 1 = cc in omega arith

-- Induction over a tree, by what stands under each name.
mutual
  tree_ind :
      (t : Tree) (P : Tree → Type 0) → ((s : Tree) → (is_tree s ≡ true → (k : ℕ) → P (kid s k)) → P s) → P t
  tree_ind missing P step = step missing (λ e k. absurd (no_way e))
  tree_ind mark P step = step mark (λ e k. absurd (no_way' e))
  tree_ind (node f) P step = step (node f) (λ e k. forest_ind f P step k)

  forest_ind :
      (f : Forest) (P : Tree → Type 0) → ((s : Tree) → (is_tree s ≡ true → (k : ℕ) → P (kid s k)) → P s) → (k : ℕ) → P (find f k)
  forest_ind empty P step k = step missing (λ f j. absurd (no_way f))
  forest_ind (child n t f) P step k = elim (eqb k n) as (λ v. P (cond v t (find f k))) [ true ↦ tree_ind t P step | false ↦ forest_ind f P step k ]

-- What is gathered obeys where its parts do, and has as many nodes as they.
pub add_obeys :
    (m : Meaning) (c : Option ℕ) (k : ℕ) (t : Tree) (f : Forest)
    → Obeys m (class_under m c k) t
    → ObeyAll m c f
    → ObeyAll m c (add k t f)
add_obeys m c k missing f ht hf = hf
add_obeys m c k mark f ht hf = (ht, hf)
add_obeys m c k (node g) f ht hf = (ht, hf)

gather_obeys :
    (m : Meaning) (c : Option ℕ) (g : ℕ → Tree) (ks : List ℕ)
    → ((k : ℕ) → Obeys m (class_under m c k) (g k))
    → ObeyAll m c (gather g ks)
gather_obeys m c g [] h = tt
gather_obeys m c g (k ∷ ks) h = add_obeys m c k (g k) (gather g ks) (h k) (gather_obeys m c g ks h)

add_nodes : (k : ℕ) (t : Tree) (f : Forest) → nodes_all (add k t f) ≡ nodes t + nodes_all f
add_nodes k missing f = omega arith
add_nodes k mark f = refl
add_nodes k (node g) f = refl

gather_nodes :
    (g u v : ℕ → Tree) (ks : List ℕ)
    → ((k : ℕ) → nodes (g k) ≤ nodes (u k) + nodes (v k))
    → nodes_all (gather g ks) ≤ nodes_all (gather u ks) + nodes_all (gather v ks)
gather_nodes g u v [] h = omega arith
gather_nodes g u v (k ∷ ks) h =
    let ih = gather_nodes g u v ks h in
    let here = h k in
    let x = add_nodes k (g k) (gather g ks) in
    let y = add_nodes k (u k) (gather u ks) in
    let z = add_nodes k (v k) (gather v ks) in
    omega arith

add_depth : (k n : ℕ) (t : Tree) (f : Forest) → (present t ≡ true → 1 + depth t ≤ n) → depth_all f ≤ n → depth_all (add k t f) ≤ n
add_depth k n missing f h l = l
add_depth k n mark f h l = let x : 1 + 0 ≤ n = h refl in omega arith
add_depth k n (node g) f h l = let x : 1 + depth_all g ≤ n = h refl in omega arith

gather_depth :
    (n : ℕ) (g : ℕ → Tree) (ks : List ℕ) → ((k : ℕ) → present (g k) ≡ true → 1 + depth (g k) ≤ n) → depth_all (gather g ks) ≤ n
gather_depth n g [] h = omega arith
gather_depth n g (k ∷ ks) h = add_depth k n (g k) (gather g ks) (h k) (gather_depth n g ks h)

find_depth : (f : Forest) (k : ℕ) → present (find f k) ≡ true → 1 + depth (find f k) ≤ depth_all f
find_depth empty k h = let z : ◌≡◌ {A = ℕ} 0 1 = cc in omega arith
find_depth (child n t f) k h =
    let ih = find_depth f k in
    elim (cases_Bool (eqb k n)) [
      | inl e ↦ rw e (omega arith)
      | inr e ↦ let x = ih (rw e at h) in rw e (omega arith)
    ]

kid_depth : (t : Tree) (k : ℕ) → is_tree t ≡ true → present (kid t k) ≡ true → 1 + depth (kid t k) ≤ depth t
kid_depth missing k e h = let z : ◌≡◌ {A = ℕ} 0 1 = cc in omega arith
kid_depth mark k e h = let z : ◌≡◌ {A = ℕ} 0 1 = cc in omega arith
kid_depth (node f) k e h = find_depth f k h

flat : (t : Tree) → present t ≡ false → depth t ≡ 0
flat missing h = refl
flat mark h = refl
flat (node f) h = cc

add_named :
    (test : ℕ → Bool) (k : ℕ) (t : Tree) (f : Forest) → T (test k) → Named test t → NamedAll test f → NamedAll test (add k t f)
add_named test k missing f h ht hf = hf
add_named test k mark f h ht hf = (h, ht, hf)
add_named test k (node g) f h ht hf = (h, ht, hf)

find_named : (test : ℕ → Bool) (f : Forest) (k : ℕ) → NamedAll test f → Named test (find f k)
find_named test empty k h = tt
find_named test (child n t f) k h =
    elim (eqb k n) as (λ v. Named test (cond v t (find f k))) [ true ↦ h.1 | false ↦ find_named test f k h.2 ]

kid_named : (test : ℕ → Bool) (t : Tree) (k : ℕ) → Named test t → Named test (kid t k)
kid_named test missing k h = tt
kid_named test mark k h = tt
kid_named test (node f) k h = find_named test f k h

has_named : (test : ℕ → Bool) (f : Forest) (k : ℕ) → NamedAll test f → has k (names f) ≡ true → test k ≡ true
has_named test empty k h e = cc
has_named test (child n t f) k h e =
    let ih = has_named test f k h.2 in
    let x = T_true (test n) h.0 in
    elim (cases_Bool (eqb k n)) [
      | inl q ↦ let z = eqb-true k n q in cc
      | inr q ↦ ih (rw q at e)
    ]

of_named : (test : ℕ → Bool) (t : Tree) (k : ℕ) → Named test t → has k (names_of t) ≡ true → test k ≡ true
of_named test missing k h e = cc
of_named test mark k h e = cc
of_named test (node f) k h e = has_named test f k h e

gather_named :
    (test : ℕ → Bool) (g : ℕ → Tree) (ks : List ℕ)
    → ((k : ℕ) → has k ks ≡ true → test k ≡ true)
    → ((k : ℕ) → Named test (g k))
    → NamedAll test (gather g ks)
gather_named test g [] h n = tt
gather_named test g (k ∷ ks) h n =
    let here : eqb k k ≡ true = grind arith in
    add_named test k (g k) (gather g ks) (true_T (test k) (h k (rw here))) (n k)
    (gather_named test g ks (λ j e. h j (let z = e in grind arith)) n)

pub record Parts (m : Meaning) (c : Option ℕ) (a b : Tree) (r : Outcome) : Type 0 where
  pub archive_part : MadeOf a b r.archive
  pub field_part : MadeOf a b r.field
  pub bench_part : MadeOf a b r.bench
  pub field_obeys : Obeys m c r.field
  pub bench_obeys : Obeys m c r.bench

some_node : (t : Tree) → present t ≡ true → 1 ≤ nodes t
some_node missing e = let z : ◌≡◌ {A = ℕ} 0 1 = cc in omega arith
some_node mark e = omega arith
some_node (node f) e = omega arith

-- two copies that differ have a node between them
between : (a b : Tree) → ¬ (a ≡ b) → 1 ≤ nodes a + nodes b
between missing missing d = absurd (d refl)
between missing mark d = omega arith
between missing (node g) d = omega arith
between mark b d = omega arith
between (node f) b d = omega arith

module _ (m : Meaning) (c : Option ℕ) (o a b : Tree) (ready : Ready m c o a b) where
  part_a : MadeOf a b a
  part_a = record { well_formed = ready.field_formed; small = omega arith; shallow = omega arith; named = λ test x y. x }

  part_b : MadeOf a b b
  part_b = record { well_formed = ready.bench_formed; small = omega arith; shallow = omega arith; named = λ test x y. y }

  part_mark : ¬ (a ≡ b) → MadeOf a b mark
  part_mark d = record { well_formed = tt; small = between a b d; shallow = omega arith; named = λ test x y. tt }

  part_joined :
      (g : ℕ → Tree)
      → is_tree a ≡ true
      → is_tree b ≡ true
      → ((k : ℕ) → MadeOf (kid a k) (kid b k) (g k))
      → ((k : ℕ) → present (g k) ≡ true → (present (kid a k) ≡ true) ⊎ (present (kid b k) ≡ true))
      → MadeOf a b (node (gather g (all a b)))
  part_joined g ta tb h some =
      record {
        well_formed = (gather_ascends g (all a b) asc, gather_sound g (all a b) (λ k. (h k).well_formed));
        small =
            let x = gather_nodes g (λ k. kid a k) (λ k. kid b k) (all a b) (λ k. (h k).small) in
            let y = ap nodes (regather a (all a b) ta ready.field_formed asc (within_left a b)) in
            let z = ap nodes (regather b (all a b) tb ready.bench_formed asc (within_right a b)) in
            omega arith;
        shallow = gather_depth (max (depth a) (depth b)) g (all a b) lower;
        named =
            λ test x y.
            gather_named test g (all a b) (λ k e. passes test k x y e) (λ k. (h k).named test (kid_named test a k x) (kid_named test b k y));
      }
    where
      asc : Ascends (all a b)
      asc = all_ascends a b ready.bench_formed

      lower : (k : ℕ) → present (g k) ≡ true → 1 + depth (g k) ≤ max (depth a) (depth b)
      lower k e =
          let x = (h k).shallow in
          let da = kid_depth a k ta in
          let db = kid_depth b k tb in
          let fa = flat (kid a k) in
          let fb = flat (kid b k) in
          let s = some k e in
          elim (cases_Bool (present (kid a k))) [
            | inl p ↦
                let u = da p in
                elim (cases_Bool (present (kid b k))) [ inl q ↦ let v = db q in omega arith | inr q ↦ let v = fb q in omega arith ]
            | inr p ↦
                let u = fa p in
                elim s [ inl q ↦ let z : ◌≡◌ {A = ℕ} 0 1 = cc in omega arith | inr q ↦ let v = db q in omega arith ]
          ]

      passes : (test : ℕ → Bool) (k : ℕ) → Named test a → Named test b → has k (all a b) ≡ true → test k ≡ true
      passes test k x y e =
          let u = union_has k (names_of a) (names_of b) in
          elim (cases_Bool (has k (names_of a))) [
            | inl p ↦ of_named test a k x p
            | inr p ↦ of_named test b k y (grind arith)
          ]

  parts_of :
      (r : Outcome)
      → (is_tree a ≡ true → (k : ℕ) → Parts m (class_under m c k) (kid a k) (kid b k) (came m c o a b k))
      → Way m c o a b r
      → Parts m c a b r
  parts_of r ih (agreed e q) =
      subst (Parts m c a b) (sym q)
      (record { archive_part = part_a; field_part = part_a; bench_part = part_b; field_obeys = ready.field_obeys; bench_obeys = ready.bench_obeys })
  parts_of r ih (took_bench d e q) =
      subst (Parts m c a b) (sym q)
      (record { archive_part = part_b; field_part = part_b; bench_part = part_b; field_obeys = ready.bench_obeys; bench_obeys = ready.bench_obeys })
  parts_of r ih (took_field d e f q) =
      subst (Parts m c a b) (sym q)
      (record { archive_part = part_a; field_part = part_a; bench_part = part_a; field_obeys = ready.field_obeys; bench_obeys = ready.field_obeys })
  parts_of r ih (still_marked d e f g q) =
      subst (Parts m c a b) (sym q)
      (record { archive_part = part_mark d; field_part = part_a; bench_part = part_b; field_obeys = ready.field_obeys; bench_obeys = ready.bench_obeys })
  parts_of r ih (one_gone d e f g h q) =
      subst (Parts m c a b) (sym q)
      (record { archive_part = part_mark d; field_part = part_a; bench_part = part_b; field_obeys = ready.field_obeys; bench_obeys = ready.bench_obeys })
  parts_of r ih (refused d e f g ta tb x q) =
      subst (Parts m c a b) (sym q)
      (record { archive_part = part_mark d; field_part = part_a; bench_part = part_b; field_obeys = ready.field_obeys; bench_obeys = ready.bench_obeys })
  parts_of r ih (joined d e f g ta tb x y q) =
      subst (Parts m c a b) (sym q)
      (record {
        archive_part = part_joined (λ k. (came m c o a b k).archive) ta tb (λ k. (ih ta k).archive_part) (λ k. some (λ r. r.archive) refl k);
        field_part = part_joined (λ k. (came m c o a b k).field) ta tb (λ k. (ih ta k).field_part) (λ k. some (λ r. r.field) refl k);
        bench_part = part_joined (λ k. (came m c o a b k).bench) ta tb (λ k. (ih ta k).bench_part) (λ k. some (λ r. r.bench) refl k);
        field_obeys = (
          true_T (allowed m c (names (gather (λ k. (came m c o a b k).field) (all a b)))) x,
          gather_obeys m c (λ k. (came m c o a b k).field) (all a b) (λ k. (ih ta k).field_obeys),
        );
        bench_obeys = (
          true_T (allowed m c (names (gather (λ k. (came m c o a b k).bench) (all a b)))) y,
          gather_obeys m c (λ k. (came m c o a b k).bench) (all a b) (λ k. (ih ta k).bench_obeys),
        );
      })
    where
      some :
          (x : Outcome → Tree)
          → x (outcome missing missing missing) ≡ missing
          → (k : ℕ)
          → present (x (came m c o a b k)) ≡ true
          → (present (kid a k) ≡ true) ⊎ (present (kid b k) ≡ true)
      some x none k e =
          elim (cases_Bool (present (kid a k))) [
            | inl p ↦ inl p
            | inr p ↦
                elim (cases_Bool (present (kid b k))) [
                  | inl q ↦ inr q
                  | inr q ↦
                      let ka = not_there (kid a k) p in
                      let kb = not_there (kid b k) q in
                      let w =
                      when_agreed m (class_under m c k) (kid o k) (kid a k) (kid b k)
                      (unmarked m (class_under m c k) (kid a k) (obeys_kid m c a k ready.field_obeys)) (ka ∙ sym kb)
                      in
                      inl (cc)
                ]
          ]

pub parts : (m : Meaning) (c : Option ℕ) (o a b : Tree) → Ready m c o a b → Parts m c a b (steps m c o a b)
parts m c o a b h =
    tree_ind a (λ s. (c : Option ℕ) (o b : Tree) → Ready m c o s b → Parts m c s b (steps m c o s b))
    (λ s ih c o b r.
    parts_of m c o s b r (steps m c o s b)
    (λ ts k. ih ts k (class_under m c k) (kid o k) (kid b k) (ready_kid m c o s b k r)) (way_at m c o s b r))
    c o b h
