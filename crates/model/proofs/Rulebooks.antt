-- The two rulebooks keep the limits and both laws.
use Rattle.std.proofs.Common.{◌≡◌, ℕ, zero, suc, ◌<◌, ◌≤◌, true, false, not, ◌&&◌, T, eqb, ltb, leb, List, [], ◌∷◌, length, Some, None, sym, refl, ◌∙◌, inl, inr, arith}
use Rattle.std.proofs.lemmas.Bool.{eqb-true, eq-eqb, ne_eqb, and_parts, ltb-true, leb-true}
use Rattle.model.specs.Trees.{Tree, node, empty, child, Among, Ascends, WellFormed}
use Rattle.model.specs.Meaning.{Bounded, NamesHaveClasses, ClassesHaveTrees, Obeying}
use Rattle.model.specs.Rulebooks.{ascending, up_to, four_consecutive, open_meaning, panel_allowed, plate_allows, plate_under, plate_meaning}
use Rattle.model.proofs.Lists.{below_trans}
use Rattle.model.proofs.Place.{T_true}

pub ascending_is : (ks : List ℕ) → ascending ks ≡ true → Ascends ks
ascending_is [] e = tt
ascending_is (k ∷ []) e = (tt, tt)
ascending_is (k ∷ n ∷ ns) e =
    let p = and_parts (ltb k n) (ascending (n ∷ ns)) e in
    let l = ltb-true k n p.0 in
    let ih = ascending_is (n ∷ ns) p.1 in
    ((l, below_trans k n ns l ih.0), ih)

up_to_is : (b : ℕ) (ks : List ℕ) (k : ℕ) → up_to b ks ≡ true → Among k ks → leb k b ≡ true
up_to_is b [] k e h = absurd h
up_to_is b (n ∷ ns) k e (inl q) = let p = and_parts (leb n b) (up_to b ns) e in rw q p.0
up_to_is b (n ∷ ns) k e (inr h) = let p = and_parts (leb n b) (up_to b ns) e in up_to_is b ns k p.1 h

-- a class is one of the first five, or none of them
five : (P : ℕ → Type 0) → P 0 → P 1 → P 2 → P 3 → P 4 → ((c : ℕ) → 5 ≤ c → P c) → (c : ℕ) → P c
five P a b c d e f zero = a
five P a b c d e f (suc zero) = b
five P a b c d e f (suc (suc zero)) = c
five P a b c d e f (suc (suc (suc zero))) = d
five P a b c d e f (suc (suc (suc (suc zero)))) = e
five P a b c d e f (suc (suc (suc (suc (suc n))))) = f (suc (suc (suc (suc (suc n))))) (omega arith)

none_allowed : (c : ℕ) (ks : List ℕ) → 5 ≤ c → plate_allows c ks ≡ false
none_allowed c ks h = grind arith

none_under : (c k : ℕ) → 5 ≤ c → plate_under c k ≡ None
none_under c k h = grind arith

-- Open.
open_parts : (c : ℕ) (ks : List ℕ) → T (open_meaning.allows c ks) → (eqb c 0 ≡ true) × (ascending ks ≡ true) × (leb (length ks) 8192 ≡ true)
open_parts c ks t =
    let e = T_true (open_meaning.allows c ks) t in
    let p = and_parts (eqb c 0 && ascending ks) (leb (length ks) 8192) e in
    let q = and_parts (eqb c 0) (ascending ks) p.0 in
    (q.0, q.1, p.1)

pub open_bounded : Bounded open_meaning
open_bounded =
    record {
      some_class = omega arith;
      few_classes = omega arith;
      exists = λ c ks t. let z = eqb-true c 0 (open_parts c ks t).0 in omega arith;
      ascends = λ c ks t. ascending_is ks (open_parts c ks t).1;
      few_names = λ c ks t. leb-true (length ks) 8192 (open_parts c ks t).2;
      nothing_under = λ c k l. let z : eqb c 0 ≡ false = ne_eqb c 0 (λ e. omega arith) in rw z;
    }

pub open_names : NamesHaveClasses open_meaning
open_names c ks k t h = (0, (let p = (open_parts c ks t).0 in rw p), omega arith)

pub open_trees : ClassesHaveTrees open_meaning
open_trees c l =
    let z : eqb c 0 ≡ true = eq-eqb c 0 (omega arith) in
    record { tree = node empty; is_node = tt; well_formed = (tt, tt); named = tt; obeys = (rw z tt, tt) }

-- Plate.
top_ascends : (ks : List ℕ) → panel_allowed ks ≡ true → Ascends ks
top_ascends [] e = tt
top_ascends (a ∷ []) e = (tt, tt)
top_ascends (a ∷ b ∷ []) e =
    let p = and_parts (eqb a 1) (eqb b 2) e in
    let x = eqb-true a 1 p.0 in
    let y = eqb-true b 2 p.1 in
    ((omega arith, tt), (tt, tt))
top_ascends (a ∷ b ∷ c ∷ []) e =
    let p = and_parts (eqb a 1 && eqb b 2) (eqb c 3) e in
    let q = and_parts (eqb a 1) (eqb b 2) p.0 in
    let x = eqb-true a 1 q.0 in
    let y = eqb-true b 2 q.1 in
    let z = eqb-true c 3 p.1 in
    ((omega arith, (omega arith, tt)), ((omega arith, tt), (tt, tt)))
top_ascends (a ∷ b ∷ c ∷ d ∷ ns) e = let z : ◌≡◌ {A = ℕ} 0 1 = cc in absurd (omega arith)

top_few : (ks : List ℕ) → panel_allowed ks ≡ true → length ks ≤ 8192
top_few [] e = omega arith
top_few (a ∷ []) e = omega arith
top_few (a ∷ b ∷ []) e = omega arith
top_few (a ∷ b ∷ c ∷ []) e = omega arith
top_few (a ∷ b ∷ c ∷ d ∷ ns) e = let z : ◌≡◌ {A = ℕ} 0 1 = cc in omega arith

top_under : (ks : List ℕ) (k : ℕ) → panel_allowed ks ≡ true → Among k ks → (d : ℕ) × (plate_under 0 k ≡ Some d) × (d < 5)
top_under [] k e h = absurd h
top_under (a ∷ []) k e h = let z : ◌≡◌ {A = ℕ} 0 1 = cc in absurd (omega arith)
top_under (a ∷ b ∷ []) k e h =
    let p = and_parts (eqb a 1) (eqb b 2) e in
    let x = eqb-true a 1 p.0 in
    let y = eqb-true b 2 p.1 in
    elim h [
      | inl q ↦ (1, rw (q, x), omega arith)
      | inr g ↦ elim g [ inl q ↦ (2, rw (q, y), omega arith) | inr n ↦ absurd n ]
    ]
top_under (a ∷ b ∷ c ∷ []) k e h =
    let p = and_parts (eqb a 1 && eqb b 2) (eqb c 3) e in
    let q = and_parts (eqb a 1) (eqb b 2) p.0 in
    let x = eqb-true a 1 q.0 in
    let y = eqb-true b 2 q.1 in
    let z = eqb-true c 3 p.1 in
    elim h [
      | inl s ↦ (1, rw (s, x), omega arith)
      | inr g ↦
          elim g [
            | inl s ↦ (2, rw (s, y), omega arith)
            | inr g ↦ elim g [ inl s ↦ (1, rw (s, z), omega arith) | inr n ↦ absurd n ]
          ]
    ]
top_under (a ∷ b ∷ c ∷ d ∷ ns) k e h = let z : ◌≡◌ {A = ℕ} 0 1 = cc in absurd (omega arith)

one_ascends : (ks : List ℕ) → length ks ≤ 1 → Ascends ks
one_ascends [] e = tt
one_ascends (k ∷ []) e = (tt, tt)
one_ascends (k ∷ n ∷ ns) e = absurd (omega arith)

none_among : (ks : List ℕ) (k : ℕ) → length ks ≡ 0 → Among k ks → ⊥
none_among [] k e h = h
none_among (n ∷ ns) k e h = omega arith

rows_parts : (ks : List ℕ) → plate_allows 2 ks ≡ true → (ascending ks ≡ true) × (leb (length ks) 512 ≡ true) × (up_to 4095 ks ≡ true)
rows_parts ks e =
    let p = and_parts (ascending ks && leb (length ks) 512) (up_to 4095 ks) e in
    let q = and_parts (ascending ks) (leb (length ks) 512) p.0 in
    (q.0, q.1, p.1)

columns_parts :
    (ks : List ℕ) → plate_allows 3 ks ≡ true → (ascending ks ≡ true) × (leb (length ks) 16 ≡ true) × (up_to 4095 ks ≡ true)
columns_parts ks e =
    let p = and_parts (ascending ks && leb 1 (length ks) && leb (length ks) 16 && up_to 4095 ks) (not (four_consecutive ks)) e in
    let q = and_parts (ascending ks && leb 1 (length ks) && leb (length ks) 16) (up_to 4095 ks) p.0 in
    let r = and_parts (ascending ks && leb 1 (length ks)) (leb (length ks) 16) q.0 in
    let s = and_parts (ascending ks) (leb 1 (length ks)) r.0 in
    (s.0, r.1, q.1)

impossible : {A : Type 0} → false ≡ true → A
impossible e = let z : ◌≡◌ {A = ℕ} 0 1 = cc in absurd (omega arith)

plate_class : (c : ℕ) (ks : List ℕ) → plate_allows c ks ≡ true → c < 5
plate_class =
    five (λ c. (ks : List ℕ) → plate_allows c ks ≡ true → c < 5) (λ ks e. omega arith) (λ ks e. omega arith) (λ ks e. omega arith)
    (λ ks e. omega arith) (λ ks e. omega arith) (λ c l ks e. impossible (sym (none_allowed c ks l) ∙ e))

plate_ascends : (c : ℕ) (ks : List ℕ) → plate_allows c ks ≡ true → Ascends ks
plate_ascends =
    five (λ c. (ks : List ℕ) → plate_allows c ks ≡ true → Ascends ks) top_ascends
    (λ ks e. one_ascends ks (let z = eqb-true (length ks) 1 e in omega arith)) (λ ks e. ascending_is ks (rows_parts ks e).0)
    (λ ks e. ascending_is ks (columns_parts ks e).0)
    (λ ks e. one_ascends ks (let z = eqb-true (length ks) 0 e in omega arith))
    (λ c l ks e. impossible (sym (none_allowed c ks l) ∙ e))

plate_few : (c : ℕ) (ks : List ℕ) → plate_allows c ks ≡ true → length ks ≤ 8192
plate_few =
    five (λ c. (ks : List ℕ) → plate_allows c ks ≡ true → length ks ≤ 8192) top_few
    (λ ks e. let z = eqb-true (length ks) 1 e in omega arith)
    (λ ks e. let z = leb-true (length ks) 512 (rows_parts ks e).1 in omega arith)
    (λ ks e. let z = leb-true (length ks) 16 (columns_parts ks e).1 in omega arith)
    (λ ks e. let z = eqb-true (length ks) 0 e in omega arith) (λ c l ks e. impossible (sym (none_allowed c ks l) ∙ e))

plate_classed : (c : ℕ) (ks : List ℕ) (k : ℕ) → plate_allows c ks ≡ true → Among k ks → (d : ℕ) × (plate_under c k ≡ Some d) × (d < 5)
plate_classed =
    five (λ c. (ks : List ℕ) (k : ℕ) → plate_allows c ks ≡ true → Among k ks → (d : ℕ) × (plate_under c k ≡ Some d) × (d < 5)) top_under
    (λ ks k e h. (4, refl, omega arith)) (λ ks k e h. (3, (let z = up_to_is 4095 ks k (rows_parts ks e).2 h in rw z), omega arith))
    (λ ks k e h. (4, (let z = up_to_is 4095 ks k (columns_parts ks e).2 h in rw z), omega arith))
    (λ ks k e h. absurd (none_among ks k (eqb-true (length ks) 0 e) h))
    (λ c l ks k e h. impossible (sym (none_allowed c ks l) ∙ e))

abbrev leaf : Tree
leaf = node empty

abbrev one : Tree
one = node (child 0 leaf empty)

one_formed : WellFormed one
one_formed = ((tt, tt), (tt, (tt, tt), tt))

pub plate_trees : ClassesHaveTrees plate_meaning
plate_trees =
    five (λ c. c < 5 → Obeying plate_meaning c)
    (λ l. record {
      tree = node (child 1 one (child 2 leaf empty));
      is_node = tt;
      well_formed = (((omega arith, tt), (tt, tt)), (tt, ((tt, tt), (tt, (tt, tt), tt)), (tt, (tt, tt), tt)));
      named = (tt, (tt, tt, tt), (tt, tt, tt));
      obeys = (tt, ((tt, ((tt, tt), tt)), ((tt, tt), tt)));
    })
    (λ l. record { tree = one; is_node = tt; well_formed = one_formed; named = (tt, tt, tt); obeys = (tt, ((tt, tt), tt)) })
    (λ l. record { tree = leaf; is_node = tt; well_formed = (tt, tt); named = tt; obeys = (tt, tt) })
    (λ l. record { tree = one; is_node = tt; well_formed = one_formed; named = (tt, tt, tt); obeys = (tt, ((tt, tt), tt)) })
    (λ l. record { tree = leaf; is_node = tt; well_formed = (tt, tt); named = tt; obeys = (tt, tt) })
    (λ c k l. absurd (omega arith))

pub plate_bounded : Bounded plate_meaning
plate_bounded =
    record {
      some_class = omega arith;
      few_classes = omega arith;
      exists = λ c ks t. plate_class c ks (T_true (plate_allows c ks) t);
      ascends = λ c ks t. plate_ascends c ks (T_true (plate_allows c ks) t);
      few_names = λ c ks t. plate_few c ks (T_true (plate_allows c ks) t);
      nothing_under = none_under;
    }

pub plate_names : NamesHaveClasses plate_meaning
plate_names c ks k t h = plate_classed c ks k (T_true (plate_allows c ks) t) h
