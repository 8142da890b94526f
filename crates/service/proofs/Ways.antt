-- Where the paths of edits lead.
use Rattle.std.proofs.Common.{◌≡◌, ℕ, zero, suc, ◌+◌, ◌-◌, ◌≤◌, Bool, true, false, cond, T, leb, List, [], ◌∷◌, length, take, drop, ◌++◌, Some, Ok, Err, Option, Result, sym, refl, ap, ◌∙◌, inl, inr, arith, length-append}
use Rattle.records.specs.Reading.{passed}
use Rattle.std.proofs.lemmas.List.{take_all, take_at, take-append-drop, length-take-le}
use Rattle.std.proofs.lemmas.Grind.{common_steps}
use Rattle.std.proofs.lemmas.Bool.{true≢false, leb-true, leb-false, cases_Bool, cond-true, cond-false, cond_both}
use Rattle.model.specs.Trees.{Tree, missing, mark, node, kid, present, Path, at, names, names_of, marks}
use Rattle.model.specs.Meaning.{Meaning, class_at, allowed}
use Rattle.model.specs.Edits.{reached, HasParent}
use Rattle.model.proofs.Trees.{at_missing, at-++}
use Rattle.model.proofs.Place.{T_true}
use Rattle.stored.specs.Words.{Stored, Stands, below}
use Rattle.refusals.specs.declared.Refusal.{Refusal}
use Rattle.refusals.specs.declared.Reason.TheVariants as reason
use Rattle.refusals.specs.declared.Whose.{Whose}
use Rattle.refusals.specs.Numbers.{refused}
use Rattle.editing.specs.declared.types.Reach.{Reach}
use Rattle.editing.specs.Paths.{Reaches}
use Rattle.editing.proofs.Routes.{falls_short}
use Rattle.editing.proofs.Carried.{carried}
use Rattle.ledger.specs.Answers.{parent, parent_stands, parent_allows, last_name}

-- The names of the children.
pub names_below : (t : Tree) → names (below t) ≡ names_of t
names_below missing = refl
names_below mark = refl
names_below (node f) = refl

present_whole : (t : Tree) (q : Path) → present (at t q) ≡ true → T (present t)
present_whole missing q e = let f : present (at missing q) ≡ false = ap present (at_missing q) in absurd (true≢false (sym e ∙ f))
present_whole mark q e = tt
present_whole (node f) q e = tt

-- A path that leads to something leads all the way.
leads_on : (t : Tree) (q : Path) → marks t ≡ 0 → present (at t q) ≡ true → length q ≤ reached t q
leads_on t q u e =
    elim (cases_Bool (leb (length q) (reached t q))) [
      | inl y ↦ leb-true (length q) (reached t q) y
      | inr n ↦
          let gone : present (at t q) ≡ false = ap present (falls_short t q u (leb-false (length q) (reached t q) n)) in
          absurd (true≢false (sym e ∙ gone))
    ]

pub record Found (ws : List ℕ) (at' : ℕ) (u : Tree) : Type 0 where
  pub self : Stored
  pub here : Stands ws at' self
  pub tree_is : self.tree ≡ u

pub found : {ws : List ℕ} {t : Tree} {q : Path} {r : Reach} → Reaches ws t q r → marks t ≡ 0 → present (at t q) ≡ true → Found ws r.at (at t q)
found {t = t} {q = q} h u e =
    let s = h.here (present_whole t q e) in
    record { self = s.0; here = s.1; tree_is = s.2 ∙ ap (at t) (take_all _ q (leads_on t q u e)) }

-- A path of some names has a parent, and a last name.
pub parent_is : (t : Tree) (p : Path) → (length p ≡ 0 → ⊥) → parent_stands t p ≡ present (at t (parent p))
parent_is t [] z = absurd (z refl)
parent_is t (k ∷ p) z = refl

module _ (p q : Path) (k : ℕ) (e : p ≡ q ++ k ∷ []) where
  pub parent_split : parent p ≡ q
  parent_split = ap parent e ∙ take_at q (k ∷ []) (length (q ++ k ∷ []) - 1) (omega (arith, length-append q (k ∷ [])))

  last_split : last_name p ≡ k
  last_split = ap last_name e ∙ grind (arith, common_steps)

  some_name : length p ≡ 0 → ⊥
  some_name z = omega (arith, ap length e, length-append q (k ∷ []))

  less_one : length p - 1 ≡ length q
  less_one = omega (arith, ap length e, length-append q (k ∷ []))

  pub stands_split : (t : Tree) → parent_stands t p ≡ present (at t q)
  stands_split t = parent_is t p some_name ∙ ap (λ r. present (at t r)) parent_split

  -- What the parent allows.
  module _ (m : Meaning) (w : Whose) (t : Tree) (change : ℕ → List ℕ → List ℕ) where
    abbrev asked : Bool
    asked = allowed m (class_at m (Some 0) q) (change k (names_of (at t q)))

    abbrev told : Path → ℕ → ℕ → Result Tree Refusal
    told r j n = cond (allowed m (class_at m (Some 0) r) (change j (names_of (at t r)))) (Ok t) (Err (refused reason.Edit w n))

    allows_is : parent_allows m w t p (change (last_name p)) ≡ cond asked (Ok t) (Err (refused reason.Edit w (length q)))
    allows_is =
        go p some_name
        ∙ ap (λ n. told (parent p) (last_name p) n) less_one ∙ ap (λ r. told r (last_name p) (length q)) parent_split ∙ ap (λ j. told q j (length q)) last_split
      where
        go : (p : Path) → (length p ≡ 0 → ⊥) → parent_allows m w t p (change (last_name p)) ≡ told (parent p) (last_name p) (length p - 1)
        go [] z = absurd (z refl)
        go (k ∷ p) z = refl

    -- The answer, by the names that were gathered for the parent and the class that was found for it.
    module _ {ws front : List ℕ} {pos : ℕ} (f : Found ws pos (at t q))
        (gathers : (s : Stored) → Stands ws pos s → front ≡ change k (names (below s.tree)))
        (class : Option ℕ) (class_is : class ≡ class_at m (Some 0) q) (b : Bool) (says : b ≡ allowed m class front) where
      asked_is : asked ≡ b
      asked_is =
          ap (allowed m (class_at m (Some 0) q)) (sym (gathers f.self f.here ∙ ap (change k) (ap (λ v. names (below v)) f.tree_is ∙ names_below (at t q))))
          ∙ ap (λ c. allowed m c front) (sym class_is) ∙ sym says

      pub allows : b ≡ true → ◌≡◌ {A = Result (Unit {0}) Refusal} (Ok (tt {0})) (passed (tt {0}) (parent_allows m w t p (change (last_name p))))
      allows y = sym (ap (passed (tt {0})) (allows_is ∙ cond-true _ _ _ (asked_is ∙ y)))

      pub forbids : b ≡ false → ◌≡◌ {A = Result (Unit {0}) Refusal} (Err (refused reason.Edit w (length q))) (passed (tt {0}) (parent_allows m w t p (change (last_name p))))
      forbids n = sym (ap (passed (tt {0})) (allows_is ∙ cond-false _ _ _ (asked_is ∙ n)))

-- What a path found in words that are known by another name too.
pub found_in : {xs ys : List ℕ} {t : Tree} {q : Path} {r : Reach} → xs ≡ ys → Reaches xs t q r → marks t ≡ 0 → present (at t q) ≡ true
    → Found ys r.at (at t q)
found_in e h u y =
    let f = found h u y in
    record { self = f.self; here = carried (sym e) f.here; tree_is = f.tree_is }

-- Where something stands, its parent stands.
pub end_has_parent : (t : Tree) (p : Path) → present (at t p) ≡ true → parent_stands t p ≡ true
end_has_parent t [] e = refl
end_has_parent t (k ∷ p) e =
    let n = length (k ∷ p) - 1 in
    let q : at t (k ∷ p) ≡ at (at t (take n (k ∷ p))) (drop n (k ∷ p)) = ap (at t) (sym (take-append-drop n (k ∷ p))) ∙ at-++ t (take n (k ∷ p)) (drop n (k ∷ p)) in
    T_true (present (at t (parent (k ∷ p)))) (present_whole (at t (take n (k ∷ p))) (drop n (k ∷ p)) (ap present (sym q) ∙ e))

-- The first names of a path lead no further than all.
reached_less : (t : Tree) (p : Path) (n : ℕ) → reached t (take n p) ≤ reached t p
reached_less t p zero = omega arith
reached_less t [] (suc n) = omega arith
reached_less t (k ∷ p) (suc n) =
    cond_both (present (kid t k)) (1 + reached (kid t k) p) 0 (λ r. cond (present (kid t k)) (1 + reached (kid t k) (take n p)) 0 ≤ r)
    (λ y. omega (arith, reached_less (kid t k) p n, cond-true (present (kid t k)) (1 + reached (kid t k) (take n p)) 0 y))
    (λ z. omega (arith, cond-false (present (kid t k)) (1 + reached (kid t k) (take n p)) 0 z))

-- A parent that stands, as an edit asks for it.
pub parented : (t : Tree) (p : Path) → marks t ≡ 0 → parent_stands t p ≡ true → 1 ≤ length p → HasParent t p
parented t p u e z =
    let y : present (at t (parent p)) ≡ true = sym (parent_is t p (λ n. omega arith)) ∙ e in
    let n = length-take-le (length p - 1) p (omega arith) in
    (present_whole t (parent p) y, omega (arith, leads_on t (parent p) u y, reached_less t p (length p - 1)))
