-- One place of a round: when it is marked, and what it is otherwise.
use Rattle.std.proofs.Common.{◌≡◌, ℕ, Bool, true, false, not, ◌&&◌, ◌||◌, T, eqb, ◌⊎◌, Option, sym, refl, ap, ◌∙◌, subst, inl, inr, arith}
use mathlib.Core.Path.{fun_ext}
use Rattle.std.proofs.lemmas.Bool.{eqb-true, cases_Bool}
use Rattle.model.specs.Trees.{Tree, missing, mark, node, Forest, empty, child, find, kid, shape, Alike, Equal, names, names_of, present, is_mark, is_tree, WellFormed, same, gather}
use Rattle.model.specs.Meaning.{Meaning, class_under, allowed, Obeys, ObeyAll}
use Rattle.model.specs.Round.{Outcome, outcome, steps}
use Rattle.model.specs.Safety.{Ready, is_next, field_next, bench_next, ConflictHere, unsettled, apart, names_refused}
use Rattle.model.proofs.Lists.{has, union_has, select_cong}
use Rattle.model.proofs.Trees.{same_one, not_same, not_there, one_same, equal_refl, equal_one, sound_kid, gather_names, gather_find, within_left, within_right, all_ascends, absent, regather}
use Rattle.model.proofs.Steps.{came, all, steps_law, Way, agreed, took_bench, took_field, still_marked, one_gone, joined, refused, way}

pub obeys_find : (m : Meaning) (c : Option ℕ) (f : Forest) (k : ℕ) → ObeyAll m c f → Obeys m (class_under m c k) (find f k)
obeys_find m c empty k h = tt
obeys_find m c (child n t f) k h =
    let ih = obeys_find m c f k h.1 in
    elim (cases_Bool (eqb k n)) [
      | inl e ↦
          let q = eqb-true k n e in
          rw e (rw q h.0)
      | inr e ↦ rw e ih
    ]

pub obeys_kid : (m : Meaning) (c : Option ℕ) (t : Tree) (k : ℕ) → Obeys m c t → Obeys m (class_under m c k) (kid t k)
obeys_kid m c missing k h = tt
obeys_kid m c mark k h = absurd h
obeys_kid m c (node f) k h = obeys_find m c f k h.1

pub ready_kid :
    (m : Meaning) (c : Option ℕ) (o a b : Tree) (k : ℕ) → Ready m c o a b → Ready m (class_under m c k) (kid o k) (kid a k) (kid b k)
ready_kid m c o a b k h =
    record {
      archive_formed = sound_kid o k h.archive_formed;
      field_formed = sound_kid a k h.field_formed;
      bench_formed = sound_kid b k h.bench_formed;
      field_obeys = obeys_kid m c a k h.field_obeys;
      bench_obeys = obeys_kid m c b k h.bench_obeys;
    }

pub unmarked : (m : Meaning) (c : Option ℕ) (t : Tree) → Obeys m c t → is_mark t ≡ false
unmarked m c missing h = refl
unmarked m c mark h = absurd h
unmarked m c (node f) h = refl

pub T_true : (b : Bool) → T b → b ≡ true
T_true true h = refl
T_true false h = absurd h

pub true_T : (b : Bool) → b ≡ true → T b
true_T true h = tt
true_T false h = let z : ◌≡◌ {A = ℕ} 0 1 = cc in absurd (omega arith)

pub false_T : (b : Bool) → b ≡ false → T b → ⊥
false_T true h t = let z : ◌≡◌ {A = ℕ} 0 1 = cc in omega arith
false_T false h t = t

pub obeys_names : (m : Meaning) (c : Option ℕ) (t : Tree) → is_tree t ≡ true → Obeys m c t → allowed m c (names_of t) ≡ true
obeys_names m c missing e h = cc
obeys_names m c mark e h = absurd h
obeys_names m c (node f) e h = T_true (allowed m c (names f)) h.0

pub tree_there : (t : Tree) → is_tree t ≡ true → present t ≡ true
tree_there missing h = cc
tree_there mark h = refl
tree_there (node f) h = refl

-- Which names come back: the next names.
stays : (o x y : Tree) → ¬ (x ≡ o) → present x ≡ ((present x && not (same x o)) || (present y && not (present o)) || (present x && present y))
stays o x y d =
    let s = not_same x o d in
    elim (cases_Bool (present x)) [
      | inl p ↦ grind arith
      | inr p ↦
          elim (cases_Bool (present o)) [
            | inl q ↦ grind arith
            | inr q ↦ absurd (d (not_there x p ∙ sym (not_there o q)))
          ]
    ]

follows : (o x y : Tree) → x ≡ o → present y ≡ ((present x && not (same x o)) || (present y && not (present o)) || (present x && present y))
follows o x y e =
    let s = one_same x o e in
    let t : present x ≡ present o = ap present e in
    grind arith

agrees : (o x y : Tree) → x ≡ y → present x ≡ ((present x && not (same x o)) || (present y && not (present o)) || (present x && present y))
agrees o x y e =
    let t : present x ≡ present y = ap present e in
    grind arith

both_there :
    (o x y : Tree) → is_tree x ≡ true → is_tree y ≡ true → true ≡ ((present x && not (same x o)) || (present y && not (present o)) || (present x && present y))
both_there o x y p q =
    let s = tree_there x p in
    let t = tree_there y q in
    grind arith

field_there :
    (m : Meaning) (c : Option ℕ) (o a b : Tree) (r : Outcome)
    → Way m c o a b r
    → present r.field ≡ ((present a && not (same a o)) || (present b && not (present o)) || (present a && present b))
field_there m c o a b r (agreed e q) = ap (λ (x : Outcome). present x.field) q ∙ agrees o a b e
field_there m c o a b r (took_bench d e q) = ap (λ (x : Outcome). present x.field) q ∙ follows o a b e
field_there m c o a b r (took_field d e f q) = ap (λ (x : Outcome). present x.field) q ∙ stays o a b e
field_there m c o a b r (still_marked d e f g q) = ap (λ (x : Outcome). present x.field) q ∙ stays o a b e
field_there m c o a b r (one_gone d e f g h q) = ap (λ (x : Outcome). present x.field) q ∙ stays o a b e
field_there m c o a b r (joined d e f g ta tb x y q) = ap (λ (x : Outcome). present x.field) q ∙ both_there o a b ta tb
field_there m c o a b r (refused d e f g ta tb x q) = ap (λ (x : Outcome). present x.field) q ∙ stays o a b e

bench_there :
    (m : Meaning) (c : Option ℕ) (o a b : Tree) (r : Outcome)
    → Way m c o a b r
    → present r.bench ≡ ((present b && not (same b o)) || (present a && not (present o)) || (present b && present a))
bench_there m c o a b r (agreed e q) = ap (λ (x : Outcome). present x.bench) q ∙ agrees o b a (sym e)
bench_there m c o a b r (took_bench d e q) = ap (λ (x : Outcome). present x.bench) q ∙ stays o b a (λ f. d (e ∙ sym f))
bench_there m c o a b r (took_field d e f q) = ap (λ (x : Outcome). present x.bench) q ∙ follows o b a f
bench_there m c o a b r (still_marked d e f g q) = ap (λ (x : Outcome). present x.bench) q ∙ stays o b a f
bench_there m c o a b r (one_gone d e f g h q) = ap (λ (x : Outcome). present x.bench) q ∙ stays o b a f
bench_there m c o a b r (joined d e f g ta tb x y q) = ap (λ (x : Outcome). present x.bench) q ∙ both_there o b a tb ta
bench_there m c o a b r (refused d e f g ta tb x q) = ap (λ (x : Outcome). present x.bench) q ∙ stays o b a f

pub way_at : (m : Meaning) (c : Option ℕ) (o a b : Tree) → Ready m c o a b → Way m c o a b (steps m c o a b)
way_at m c o a b h = way m c o a b (unmarked m c a h.field_obeys) (unmarked m c b h.bench_obeys)

pub field_back :
    (m : Meaning) (c : Option ℕ) (o a b : Tree)
    → Ready m c o a b
    → field_next o a b ≡ names (gather (λ k. (came m c o a b k).field) (all a b))
field_back m c o a b h =
    select_cong (is_next o a b) (λ k. present (came m c o a b k).field) (all a b)
    (λ k.
    sym (field_there m (class_under m c k) (kid o k) (kid a k) (kid b k) (came m c o a b k)
    (way_at m (class_under m c k) (kid o k) (kid a k) (kid b k) (ready_kid m c o a b k h))))
    ∙ sym (gather_names (λ k. (came m c o a b k).field) (all a b))

pub bench_back :
    (m : Meaning) (c : Option ℕ) (o a b : Tree)
    → Ready m c o a b
    → bench_next o a b ≡ names (gather (λ k. (came m c o a b k).bench) (all a b))
bench_back m c o a b h =
    select_cong (is_next o b a) (λ k. present (came m c o a b k).bench) (all a b)
    (λ k.
    sym (bench_there m (class_under m c k) (kid o k) (kid a k) (kid b k) (came m c o a b k)
    (way_at m (class_under m c k) (kid o k) (kid a k) (kid b k) (ready_kid m c o a b k h))))
    ∙ sym (gather_names (λ k. (came m c o a b k).bench) (all a b))

-- Where two of the three are one, the round is plain.
pub when_agreed :
    (m : Meaning) (c : Option ℕ) (o a b : Tree) → is_mark a ≡ false → a ≡ b → steps m c o a b ≡ outcome a a b
when_agreed m c o a b h e = let l = steps_law m c o a b h in let s = one_same a b e in cc

pub when_took_bench :
    (m : Meaning) (c : Option ℕ) (o a b : Tree) → is_mark a ≡ false → a ≡ o → steps m c o a b ≡ outcome b b b
when_took_bench m c o a b h e =
    let l = steps_law m c o a b h in
    let t = one_same a o e in
    elim (cases_Bool (same a b)) [ inl s ↦ let q = same_one a b s in cc | inr s ↦ cc ]

pub when_took_field :
    (m : Meaning) (c : Option ℕ) (o a b : Tree) → is_mark a ≡ false → b ≡ o → steps m c o a b ≡ outcome a a a
when_took_field m c o a b h e =
    let l = steps_law m c o a b h in
    let t = one_same b o e in
    elim (cases_Bool (same a b)) [
      | inl s ↦ let q = same_one a b s in cc
      | inr s ↦
          elim (cases_Bool (same a o)) [ inl u ↦ let q = same_one a o u in cc | inr u ↦ cc ]
    ]

-- What a place comes to: it is marked and the copies stay, or it is clear.
pub record Clear (m : Meaning) (c : Option ℕ) (o a b : Tree) (r : Outcome) : Type 0 where
  pub no_clash : ¬ ConflictHere m c o a b
  pub no_mark : is_mark r.archive ≡ false
  pub like_field : Alike r.archive r.field
  pub like_bench : Alike r.archive r.bench
  pub keeps_field : ¬ Alike o a → Alike r.field a
  pub keeps_bench : ¬ Alike o b → Alike r.bench b
  pub knows_field : Alike r.field a ⊎ Alike r.field b
  pub knows_bench : Alike r.bench a ⊎ Alike r.bench b

abbrev pub kids : Outcome → ℕ → Outcome
kids r k = outcome (kid r.archive k) (kid r.field k) (kid r.bench k)

pub data Root (m : Meaning) (c : Option ℕ) (o a b : Tree) (r : Outcome) : Type 0 where
  stuck : ConflictHere m c o a b → r ≡ outcome mark a b → Root m c o a b r
  clear : Clear m c o a b r → ((k : ℕ) → kids r k ≡ came m c o a b k) → Root m c o a b r

-- The names that come back are allowed where they are those of a tree that obeys.
pub allowed_as :
    (m : Meaning) (c : Option ℕ) (a b : Tree) (g : ℕ → Tree) (t : Tree)
    → WellFormed b
    → is_tree t ≡ true
    → WellFormed t
    → Obeys m c t
    → ((k : ℕ) → has k (names_of t) ≡ true → has k (all a b) ≡ true)
    → ((k : ℕ) → g k ≡ kid t k)
    → allowed m c (names (gather g (all a b))) ≡ true
allowed_as m c a b g t hb tree sound obeys within e =
    let same_g : g ≡ (λ k. kid t k) = fun_ext e in
    let same_t = regather t (all a b) tree sound (all_ascends a b hb) within in
    let fine = obeys_names m c t tree obeys in
    subst (λ (h : ℕ → Tree). allowed m c (names (gather h (all a b))) ≡ true) (sym same_g)
    (subst (λ (s : Tree). allowed m c (names_of s) ≡ true) (sym same_t) fine)

trees_alike : (a b : Tree) → is_tree a ≡ true → is_tree b ≡ true → Alike a b
trees_alike missing b h k = cc
trees_alike mark b h k = cc
trees_alike (node f) missing h k = cc
trees_alike (node f) mark h k = cc
trees_alike (node f) (node g) h k = refl

pub not_marked : (t : Tree) → is_mark t ≡ false → t ≡ mark → ⊥
not_marked t h e = let z : ◌≡◌ {A = ℕ} 0 1 = cc in omega arith

alike_gone : (t : Tree) → is_mark t ≡ false → Alike missing t → t ≡ missing
alike_gone missing h e = refl
alike_gone mark h e = cc
alike_gone (node f) h e = cc

module _ (m : Meaning) (c : Option ℕ) (o a b : Tree) (ready : Ready m c o a b) where
  pub no_mark_a : is_mark a ≡ false
  no_mark_a = unmarked m c a ready.field_obeys

  pub no_mark_b : is_mark b ≡ false
  no_mark_b = unmarked m c b ready.bench_obeys

  kid_mark_a : (k : ℕ) → is_mark (kid a k) ≡ false
  kid_mark_a k = unmarked m (class_under m c k) (kid a k) (obeys_kid m c a k ready.field_obeys)

  -- where both copies are trees and the names that come back are allowed, only the first two clashes are left
  no_refusal :
      (allowed m c (names (gather (λ k. (came m c o a b k).field) (all a b))) ≡ true)
      → (allowed m c (names (gather (λ k. (came m c o a b k).bench) (all a b))) ≡ true)
      → (T (allowed m c (field_next o a b))) × (T (allowed m c (bench_next o a b)))
  no_refusal x y = (
    true_T (allowed m c (field_next o a b)) (rw (field_back m c o a b ready) x),
    true_T (allowed m c (bench_next o a b)) (rw (bench_back m c o a b ready) y),
  )

  no_clash_by :
      ¬ ((o ≡ mark) × (¬ Equal a b))
      → ¬ ((¬ Alike a b) × (¬ Equal o a) × (¬ Equal o b))
      → (is_tree a ≡ true → is_tree b ≡ true → allowed m c (names (gather (λ k. (came m c o a b k).field) (all a b))) ≡ true)
      → (is_tree a ≡ true → is_tree b ≡ true → allowed m c (names (gather (λ k. (came m c o a b k).bench) (all a b))) ≡ true)
      → ¬ ConflictHere m c o a b
  no_clash_by u v x y (unsettled e d) = u (e, d)
  no_clash_by u v x y (apart d e f) = v (d, e, f)
  no_clash_by u v x y (names_refused ta tb n) =
      let p = T_true (is_tree a) ta in
      let q = T_true (is_tree b) tb in
      let fine = no_refusal (x p q) (y p q) in
      elim n [ inl k ↦ k fine.0 | inr k ↦ k fine.1 ]

  pub not_equal : (s t : Tree) → WellFormed s → WellFormed t → ¬ (s ≡ t) → ¬ Equal s t
  not_equal s t hs ht d e = d (equal_one s t hs ht e)

  clear_agreed : a ≡ b → Root m c o a b (outcome a a b)
  clear_agreed e =
      clear
      (record {
        no_clash =
            no_clash_by (λ z. z.1 (equal_refl a b e)) (λ z. z.0 (ap shape e))
            (λ p q.
            allowed_as m c a b (λ k. (came m c o a b k).field) a ready.bench_formed p ready.field_formed ready.field_obeys (within_left a b)
            (λ k. ap (λ (x : Outcome). x.field) (under k)))
            (λ p q.
            allowed_as m c a b (λ k. (came m c o a b k).bench) b ready.bench_formed q ready.bench_formed ready.bench_obeys (within_right a b)
            (λ k. ap (λ (x : Outcome). x.bench) (under k)));
        no_mark = no_mark_a;
        like_field = refl;
        like_bench = ap shape e;
        keeps_field = λ n. refl;
        keeps_bench = λ n. refl;
        knows_field = inl refl;
        knows_bench = inr refl;
      })
      (λ k. sym (under k))
    where
      under : (k : ℕ) → came m c o a b k ≡ outcome (kid a k) (kid a k) (kid b k)
      under k = when_agreed m (class_under m c k) (kid o k) (kid a k) (kid b k) (kid_mark_a k) (ap (λ t. kid t k) e)

  clear_bench : a ≡ o → Root m c o a b (outcome b b b)
  clear_bench e =
      clear
      (record {
        no_clash =
            no_clash_by (λ z. not_marked a no_mark_a (e ∙ z.0)) (λ z. z.1 (equal_refl o a (sym e)))
            (λ p q.
            allowed_as m c a b (λ k. (came m c o a b k).field) b ready.bench_formed q ready.bench_formed ready.bench_obeys (within_right a b)
            (λ k. ap (λ (x : Outcome). x.field) (under k)))
            (λ p q.
            allowed_as m c a b (λ k. (came m c o a b k).bench) b ready.bench_formed q ready.bench_formed ready.bench_obeys (within_right a b)
            (λ k. ap (λ (x : Outcome). x.bench) (under k)));
        no_mark = no_mark_b;
        like_field = refl;
        like_bench = refl;
        keeps_field = λ n. absurd (n (ap shape (sym e)));
        keeps_bench = λ n. refl;
        knows_field = inr refl;
        knows_bench = inr refl;
      })
      (λ k. sym (under k))
    where
      under : (k : ℕ) → came m c o a b k ≡ outcome (kid b k) (kid b k) (kid b k)
      under k = when_took_bench m (class_under m c k) (kid o k) (kid a k) (kid b k) (kid_mark_a k) (ap (λ t. kid t k) e)

  clear_field : b ≡ o → Root m c o a b (outcome a a a)
  clear_field e =
      clear
      (record {
        no_clash =
            no_clash_by (λ z. not_marked b no_mark_b (e ∙ z.0)) (λ z. z.2 (equal_refl o b (sym e)))
            (λ p q.
            allowed_as m c a b (λ k. (came m c o a b k).field) a ready.bench_formed p ready.field_formed ready.field_obeys (within_left a b)
            (λ k. ap (λ (x : Outcome). x.field) (under k)))
            (λ p q.
            allowed_as m c a b (λ k. (came m c o a b k).bench) a ready.bench_formed p ready.field_formed ready.field_obeys (within_left a b)
            (λ k. ap (λ (x : Outcome). x.bench) (under k)));
        no_mark = no_mark_a;
        like_field = refl;
        like_bench = refl;
        keeps_field = λ n. refl;
        keeps_bench = λ n. absurd (n (ap shape (sym e)));
        knows_field = inl refl;
        knows_bench = inl refl;
      })
      (λ k. sym (under k))
    where
      under : (k : ℕ) → came m c o a b k ≡ outcome (kid a k) (kid a k) (kid a k)
      under k = when_took_field m (class_under m c k) (kid o k) (kid a k) (kid b k) (kid_mark_a k) (ap (λ t. kid t k) e)

  clear_joined :
      is_mark o ≡ false
      → is_tree a ≡ true
      → is_tree b ≡ true
      → allowed m c (names (gather (λ k. (came m c o a b k).field) (all a b))) ≡ true
      → allowed m c (names (gather (λ k. (came m c o a b k).bench) (all a b))) ≡ true
      → Root m c o a b
      (outcome (node (gather (λ k. (came m c o a b k).archive) (all a b))) (node (gather (λ k. (came m c o a b k).field) (all a b)))
      (node (gather (λ k. (came m c o a b k).bench) (all a b))))
  clear_joined g ta tb x y =
      clear
      (record {
        no_clash =
            no_clash_by (λ z. not_marked o g z.0) (λ z. z.0 (trees_alike a b ta tb)) (λ p q. x) (λ p q. y);
        no_mark = refl;
        like_field = refl;
        like_bench = refl;
        keeps_field = λ n. trees_alike (node (gather (λ k. (came m c o a b k).field) (all a b))) a refl ta;
        keeps_bench = λ n. trees_alike (node (gather (λ k. (came m c o a b k).bench) (all a b))) b refl tb;
        knows_field = inl (trees_alike (node (gather (λ k. (came m c o a b k).field) (all a b))) a refl ta);
        knows_bench = inr (trees_alike (node (gather (λ k. (came m c o a b k).bench) (all a b))) b refl tb);
      })
      (λ k. λ i. outcome (part (λ r. r.archive) refl k i) (part (λ r. r.field) refl k i) (part (λ r. r.bench) refl k i))
    where
      none_under : (k : ℕ) → has k (all a b) ≡ false → came m c o a b k ≡ outcome missing missing missing
      none_under k n =
          let u = union_has k (names_of a) (names_of b) in
          let na : has k (names_of a) ≡ false = grind arith in
          let nb : has k (names_of b) ≡ false = grind arith in
          let ka = absent a k ta ready.field_formed na in
          let kb = absent b k tb ready.bench_formed nb in
          let w = when_agreed m (class_under m c k) (kid o k) (kid a k) (kid b k) (kid_mark_a k) (ka ∙ sym kb) in
          cc

      part : (x : Outcome → Tree) → x (outcome missing missing missing) ≡ missing → (k : ℕ) → find (gather (λ j. x (came m c o a b j)) (all a b)) k ≡ x (came m c o a b k)
      part x h k =
          gather_find (λ j. x (came m c o a b j)) (all a b) k
          ∙ elim (cases_Bool (has k (all a b))) [
            | inl e ↦ rw e
            | inr e ↦ let w = none_under k e in rw e (sym (ap x w ∙ h))
          ]

  root_of : (r : Outcome) → Way m c o a b r → Root m c o a b r
  root_of r (agreed e q) = subst (Root m c o a b) (sym q) (clear_agreed e)
  root_of r (took_bench d e q) = subst (Root m c o a b) (sym q) (clear_bench e)
  root_of r (took_field d e f q) = subst (Root m c o a b) (sym q) (clear_field f)
  root_of r (still_marked d e f g q) = stuck (unsettled g (not_equal a b ready.field_formed ready.bench_formed d)) q
  root_of r (one_gone d e f g h q) =
      stuck
      (apart (λ s. d (same_side h s)) (λ s. e (sym (equal_one o a ready.archive_formed ready.field_formed s)))
      (λ s. f (sym (equal_one o b ready.archive_formed ready.bench_formed s))))
      q
    where
      same_side : (a ≡ missing) ⊎ (b ≡ missing) → Alike a b → a ≡ b
      same_side (inl x) s = x ∙ sym (alike_gone b no_mark_b (cc))
      same_side (inr x) s = alike_gone a no_mark_a (cc) ∙ sym x
  root_of r (joined d e f g ta tb x y q) = subst (Root m c o a b) (sym q) (clear_joined g ta tb x y)
  root_of r (refused d e f g ta tb x q) = stuck (clash x) q
    where
      clash :
          (allowed m c (names (gather (λ k. (came m c o a b k).field) (all a b))) ≡ false)
          ⊎ (allowed m c (names (gather (λ k. (came m c o a b k).bench) (all a b))) ≡ false)
          → ConflictHere m c o a b
      clash (inl n) =
          names_refused (true_T (is_tree a) ta) (true_T (is_tree b) tb)
          (inl (false_T (allowed m c (field_next o a b)) (rw (field_back m c o a b ready) n)))
      clash (inr n) =
          names_refused (true_T (is_tree a) ta) (true_T (is_tree b) tb)
          (inr (false_T (allowed m c (bench_next o a b)) (rw (bench_back m c o a b ready) n)))

  pub root : Root m c o a b (steps m c o a b)
  root = root_of (steps m c o a b) (way_at m c o a b ready)
