-- What becomes of each path, and the claims that follow.
use Rattle.std.proofs.Common.{◌≡◌, ℕ, [], ◌∷◌, ◌++◌, Option, sym, refl, ap, ◌∙◌, subst, arith}
use Rattle.model.specs.Trees.{Tree, mark, kid, Path, at}
use Rattle.model.specs.Meaning.{Meaning, class_under, class_at}
use Rattle.model.specs.Round.{Outcome, outcome, steps}
use Rattle.model.specs.Safety.{Ready, ConflictHere, InConflict, AtOrBelowConflict}
use Rattle.model.proofs.Trees.{at_mark}
use Rattle.model.proofs.Steps.{came}
use Rattle.model.proofs.Place.{ready_kid, Clear, stuck, clear, root}

abbrev pub along : Outcome → Path → Outcome
along r p = outcome (at r.archive p) (at r.field p) (at r.bench p)

-- A path is blocked: marked in the archive, and the copies stay. Or it is free, and clear.
pub data Fate (m : Meaning) (c : Option ℕ) (o a b : Tree) (r : Outcome) (p : Path) : Type 0 where
  blocked : AtOrBelowConflict m c o a b p → along r p ≡ outcome mark (at a p) (at b p) → Fate m c o a b r p
  free : ¬ AtOrBelowConflict m c o a b p → Clear m (class_at m c p) (at o p) (at a p) (at b p) (along r p) → Fate m c o a b r p

-- A path that is blocked though its place is not is blocked further down.
further :
    (m : Meaning) (c : Option ℕ) (o a b : Tree) (k : ℕ) (p : Path)
    → ¬ ConflictHere m c o a b
    → AtOrBelowConflict m c o a b (k ∷ p)
    → AtOrBelowConflict m (class_under m c k) (kid o k) (kid a k) (kid b k) p
further m c o a b k p n (q, s, e, h) = go q s e h
  where
    go : (q s : Path) → (k ∷ p) ≡ q ++ s → InConflict m c o a b q → AtOrBelowConflict m (class_under m c k) (kid o k) (kid a k) (kid b k) p
    go [] s e h = absurd (n h)
    go (j ∷ q) s e h =
        let kj : j ≡ k = cc in
        let ps : p ≡ q ++ s = cc in
        (q, s, ps, subst (λ (i : ℕ). InConflict m (class_under m c i) (kid o i) (kid a i) (kid b i) q) kj h)

here_only : (m : Meaning) (c : Option ℕ) (o a b : Tree) → ¬ ConflictHere m c o a b → ¬ AtOrBelowConflict m c o a b []
here_only m c o a b n (q, s, e, h) = go q s e h
  where
    go : (q s : Path) → [] ≡ q ++ s → InConflict m c o a b q → ⊥
    go [] s e h = n h
    go (j ∷ q) s e h = let z : ◌≡◌ {A = ℕ} 0 1 = cc in omega arith

pub fate : (m : Meaning) (c : Option ℕ) (o a b : Tree) (p : Path) → Ready m c o a b → Fate m c o a b (steps m c o a b) p
fate m c o a b [] h =
    elim (root m c o a b h) [
      | stuck x e ↦ blocked ([], [], refl, x) e
      | clear x e ↦ free (here_only m c o a b x.no_clash) x
    ]
fate m c o a b (k ∷ p) h =
    elim (root m c o a b h) [
      | stuck x e ↦ blocked ([], (k ∷ p), refl, x) (ap (λ (r : Outcome). along r (k ∷ p)) e ∙ ap (λ (t : Tree). outcome t (at a (k ∷ p)) (at b (k ∷ p))) (at_mark p))
      | clear x e ↦ go x.no_clash (ap (λ (r : Outcome). along r p) (e k))
          (fate m (class_under m c k) (kid o k) (kid a k) (kid b k) p (ready_kid m c o a b k h))
    ]
  where
    go :
        ¬ ConflictHere m c o a b
        → along (steps m c o a b) (k ∷ p) ≡ along (came m c o a b k) p
        → Fate m (class_under m c k) (kid o k) (kid a k) (kid b k) (came m c o a b k) p
        → Fate m c o a b (steps m c o a b) (k ∷ p)
    go n q (blocked (x, s, e, h) w) = blocked ((k ∷ x), s, ap (λ l. k ∷ l) e, h) (q ∙ w)
    go n q (free x w) =
        free (λ y. x (further m c o a b k p n y))
        (subst (Clear m (class_at m c (k ∷ p)) (at o (k ∷ p)) (at a (k ∷ p)) (at b (k ∷ p))) (sym q) w)
