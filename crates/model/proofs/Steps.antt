-- The six steps: the law that they follow, and which one was taken.
use Rattle.std.proofs.Common.{◌≡◌, ℕ, Bool, true, false, cond, not, ◌&&◌, ◌||◌, eqb, ◌⊎◌, List, Option, sym, refl, ap, subst, inl, inr, arith}
use mathlib.Core.Path.{fun_ext}
use Rattle.std.proofs.lemmas.Bool.{cases_Bool}
use Rattle.model.specs.Trees.{Tree, missing, mark, node, Forest, empty, child, find, kid, names, names_of, present, is_mark, is_tree, same, union, gather}
use Rattle.model.specs.Meaning.{Meaning, class_under, allowed}
use Rattle.model.specs.Round.{Outcome, outcome, Verdict, settled, below, first_five, put_together, steps, steps_under}
use Rattle.model.proofs.Trees.{same_refl, same_one}

-- The round under the name k.
abbrev pub came : Meaning → Option ℕ → Tree → Tree → Tree → ℕ → Outcome
came m c o a b k = steps m (class_under m c k) (kid o k) (kid a k) (kid b k)

under_is : (m : Meaning) (c : Option ℕ) (o : Tree) (f : Forest) (k : ℕ) (b : Tree) → steps_under m c o f k b ≡ steps m c o (find f k) b
under_is m c o empty k b = refl
under_is m c o (child n t f) k b =
    let ih = under_is m c o f k b in
    elim (cases_Bool (eqb k n)) [ inl e ↦ cc | inr e ↦ cc ]

abbrev pub or_else : Verdict → Outcome → Outcome
or_else v r = elim v [ settled s ↦ s | below ↦ r ]

early_missing : (o b : Tree) (r s : Outcome) → or_else (first_five o missing b) r ≡ or_else (first_five o missing b) s
early_missing o b r s = go (same missing b) (same missing o) (same b o) (is_mark o)
  where
    v : Bool → Bool → Bool → Bool → Verdict
    v x y z w =
        cond x (settled (outcome missing missing b))
        (cond y (settled (outcome b b b))
        (cond z (settled (outcome missing missing missing))
        (cond w (settled (outcome mark missing b)) (settled (outcome mark missing b)))))

    go : (x y z w : Bool) → or_else (v x y z w) r ≡ or_else (v x y z w) s
    go true y z w = refl
    go false true z w = refl
    go false false true w = refl
    go false false false true = refl
    go false false false false = refl

-- The steps as they are told: where none of steps 1 to 5 fits, the round is taken under every name.
pub steps_law :
    (m : Meaning) (c : Option ℕ) (o a b : Tree)
    → is_mark a ≡ false
    → steps m c o a b ≡ or_else (first_five o a b) (put_together m c a b (came m c o a b))
steps_law m c o missing b h = early_missing o b (outcome mark missing b) (put_together m c missing b (came m c o missing b))
steps_law m c o mark b h = cc
steps_law m c o (node f) b h =
    ap (λ (g : ℕ → Outcome). or_else (first_five o (node f) b) (put_together m c (node f) b g))
    (fun_ext (λ k. under_is m (class_under m c k) (kid o k) f k (kid b k)))

abbrev pub all : Tree → Tree → List ℕ
all a b = union (names_of a) (names_of b)

pub data Way (m : Meaning) (c : Option ℕ) (o a b : Tree) (r : Outcome) : Type 0 where
  agreed : a ≡ b → r ≡ outcome a a b → Way m c o a b r
  took_bench : ¬ (a ≡ b) → a ≡ o → r ≡ outcome b b b → Way m c o a b r
  took_field : ¬ (a ≡ b) → ¬ (a ≡ o) → b ≡ o → r ≡ outcome a a a → Way m c o a b r
  still_marked : ¬ (a ≡ b) → ¬ (a ≡ o) → ¬ (b ≡ o) → o ≡ mark → r ≡ outcome mark a b → Way m c o a b r
  one_gone :
      ¬ (a ≡ b)
      → ¬ (a ≡ o)
      → ¬ (b ≡ o)
      → is_mark o ≡ false
      → (a ≡ missing) ⊎ (b ≡ missing)
      → r ≡ outcome mark a b
      → Way m c o a b r
  joined :
      ¬ (a ≡ b)
      → ¬ (a ≡ o)
      → ¬ (b ≡ o)
      → is_mark o ≡ false
      → is_tree a ≡ true
      → is_tree b ≡ true
      → allowed m c (names (gather (λ k. (came m c o a b k).field) (all a b))) ≡ true
      → allowed m c (names (gather (λ k. (came m c o a b k).bench) (all a b))) ≡ true
      → r
      ≡ outcome (node (gather (λ k. (came m c o a b k).archive) (all a b))) (node (gather (λ k. (came m c o a b k).field) (all a b)))
      (node (gather (λ k. (came m c o a b k).bench) (all a b)))
      → Way m c o a b r
  refused :
      ¬ (a ≡ b)
      → ¬ (a ≡ o)
      → ¬ (b ≡ o)
      → is_mark o ≡ false
      → is_tree a ≡ true
      → is_tree b ≡ true
      → (allowed m c (names (gather (λ k. (came m c o a b k).field) (all a b))) ≡ false)
      ⊎ (allowed m c (names (gather (λ k. (came m c o a b k).bench) (all a b))) ≡ false)
      → r ≡ outcome mark a b
      → Way m c o a b r

unlike : (s t : Tree) → same s t ≡ false → ¬ (s ≡ t)
unlike s t e h = let x = same_refl s in let z : ◌≡◌ {A = ℕ} 0 1 = cc in omega arith

marked : (t : Tree) → is_mark t ≡ true → t ≡ mark
marked missing h = cc
marked mark h = refl
marked (node f) h = cc

gone : (a b : Tree) → (not (present a) || not (present b)) ≡ true → (a ≡ missing) ⊎ (b ≡ missing)
gone missing b h = inl refl
gone mark missing h = inr refl
gone mark mark h = inl (cc)
gone mark (node g) h = inl (cc)
gone (node f) missing h = inr refl
gone (node f) mark h = inl (cc)
gone (node f) (node g) h = inl (cc)

trees_both : (a b : Tree) → is_mark a ≡ false → is_mark b ≡ false → (not (present a) || not (present b)) ≡ false → (is_tree a ≡ true) × (is_tree b ≡ true)
trees_both missing b h k e = (cc, cc)
trees_both mark b h k e = (cc, cc)
trees_both (node f) missing h k e = (cc, cc)
trees_both (node f) mark h k e = (cc, cc)
trees_both (node f) (node g) h k e = (refl, refl)

-- Which step was taken.
pub way :
    (m : Meaning) (c : Option ℕ) (o a b : Tree) → is_mark a ≡ false → is_mark b ≡ false → Way m c o a b (steps m c o a b)
way m c o a b ha hb =
    subst (λ (r : Outcome). Way m c o a b r) (sym (steps_law m c o a b ha))
    (go (same a b) (same a o) (same b o) (is_mark o) (not (present a) || not (present b)) refl refl refl refl refl)
  where
    fa : Forest
    fa = gather (λ k. (came m c o a b k).field) (all a b)

    fb : Forest
    fb = gather (λ k. (came m c o a b k).bench) (all a b)

    fo : Forest
    fo = gather (λ k. (came m c o a b k).archive) (all a b)

    last : (x y : Bool) → ¬ (a ≡ b) → ¬ (a ≡ o) → ¬ (b ≡ o) → is_mark o ≡ false → (not (present a) || not (present b)) ≡ false
        → allowed m c (names fa) ≡ x → allowed m c (names fb) ≡ y
        → Way m c o a b (cond (x && y) (outcome (node fo) (node fa) (node fb)) (outcome mark a b))
    last true true d e f g h p q = let w = trees_both a b ha hb h in joined d e f g w.0 w.1 p q refl
    last true false d e f g h p q = let w = trees_both a b ha hb h in refused d e f g w.0 w.1 (inr q) refl
    last false y d e f g h p q = let w = trees_both a b ha hb h in refused d e f g w.0 w.1 (inl p) refl

    go : (x y z w v : Bool) → same a b ≡ x → same a o ≡ y → same b o ≡ z → is_mark o ≡ w → (not (present a) || not (present b)) ≡ v
        → Way m c o a b
        (or_else
        (cond x (settled (outcome a a b))
        (cond y (settled (outcome b b b))
        (cond z (settled (outcome a a a))
        (cond w (settled (outcome mark a b))
        (cond v (settled (outcome mark a b)) below)))))
        (put_together m c a b (came m c o a b)))
    go true y z w v p q r s t = agreed (same_one a b p) refl
    go false true z w v p q r s t = took_bench (unlike a b p) (same_one a o q) refl
    go false false true w v p q r s t = took_field (unlike a b p) (unlike a o q) (same_one b o r) refl
    go false false false true v p q r s t = still_marked (unlike a b p) (unlike a o q) (unlike b o r) (marked o s) refl
    go false false false false true p q r s t = one_gone (unlike a b p) (unlike a o q) (unlike b o r) s (gone a b t) refl
    go false false false false false p q r s t =
        last (allowed m c (names fa)) (allowed m c (names fb)) (unlike a b p) (unlike a o q) (unlike b o r) s t refl refl
