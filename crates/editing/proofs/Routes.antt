-- Steps along a path.
use Rattle.std.proofs.Common.{◌≡◌, ℕ, ◌+◌, ◌<◌, ◌≤◌, cond, T, List, [], ◌∷◌, length, get_or, take, drop, Some, None, sym, refl, ap, ◌∙◌, inl, inr, arith}
use Rattle.std.proofs.lemmas.List.{take_more, at_drop_more, at_drop_all}
use Rattle.std.proofs.lemmas.Bool.{cases_Bool}
use Rattle.model.specs.Trees.{Tree, missing, mark, node, kid, find, present, Path, at, nodes, marks}
use Rattle.model.specs.Edits.{reached}
use Rattle.model.proofs.Place.{T_true}
use Rattle.model.proofs.Trees.{at_missing, at-++, not_there}
use Rattle.model.proofs.Edits.{unmarked_find}
use Rattle.stored.specs.Words.{Stored, Stands, below, Holds}
use Rattle.stored.specs.Lookup.{place}
use Rattle.stored.proofs.Places.{inside, sound_below, begun}
use Rattle.stored.proofs.Placed.{place_none, place_stands}
use Rattle.editing.specs.Paths.{Reaches}

-- Without marks, what is one name down is a child.
pub kid_below : (t : Tree) (k : ℕ) → marks t ≡ 0 → kid t k ≡ find (below t) k
kid_below missing k e = refl
kid_below mark k e = absurd (omega arith)
kid_below (node f) k e = refl

pub unmarked_kid : (t : Tree) (k : ℕ) → marks t ≡ 0 → marks (kid t k) ≡ 0
unmarked_kid missing k e = refl
unmarked_kid mark k e = absurd (omega arith)
unmarked_kid (node f) k e = unmarked_find f k e

reached_missing : (p : Path) → reached missing p ≡ 0
reached_missing [] = refl
reached_missing (k ∷ p) = refl

-- A path that does not lead to its end ends at nothing.
pub falls_short : (t : Tree) (p : Path) → marks t ≡ 0 → reached t p < length p → at t p ≡ missing
falls_short t [] e l = absurd (omega arith)
falls_short t (k ∷ p) e l =
    elim (cases_Bool (present (kid t k))) [
      | inl y ↦
          let r = ap (λ b. cond b (1 + reached (kid t k) p) 0) y in
          falls_short (kid t k) p (unmarked_kid t k e) (omega arith)
      | inr n ↦ ap (λ s. at s p) (not_there (kid t k) n) ∙ at_missing p
    ]

-- The first i names of a path lead to a tree that stands at `pos`.
pub record Leads (ws : List ℕ) (t : Tree) (p : Path) (i pos : ℕ) : Type 0 where
  pub self : Stored
  pub here : Stands ws pos self
  pub tree_is : self.tree ≡ at t (take i p)
  pub unmarked : marks self.tree ≡ 0
  pub reached_is : reached t p ≡ i + reached self.tree (drop i p)

pub sets_out : {ws : List ℕ} {n : ℕ} {t : Tree} (p : Path) → Holds ws n t → T (present t) → marks t ≡ 0 → Leads ws t p 0 0
sets_out p h y u = record { self = _; here = begun h.begins y; tree_is = refl; unmarked = u; reached_is = omega arith }

module _ {ws : List ℕ} {t : Tree} {p : Path} {i pos : ℕ} (a : Leads ws t p i pos) (k : ℕ) where
  next_reached : i < length p → get_or p i 0 ≡ k
      → reached a.self.tree (drop i p) ≡ cond (present (kid a.self.tree k)) (1 + reached (kid a.self.tree k) (drop (i + 1) p)) 0
  next_reached l e =
      at_drop_more (reached a.self.tree) p i 0 l
      ∙ ap (λ j. cond (present (kid a.self.tree j)) (1 + reached (kid a.self.tree j) (drop (i + 1) p)) 0) e

  -- There is no such child.
  pub no_further : i < length p → get_or p i 0 ≡ k → None ≡ place (below a.self.tree) k (pos + 1) → reached t p ≡ i
  no_further l e n =
      let s = a.self.tree in
      let gone : kid s k ≡ missing = kid_below s k a.unmarked ∙ place_none (below s) k (pos + 1) (sound_below s a.self.well_formed) (sym n) in
      let r = next_reached l e ∙ ap (λ u. cond (present u) (1 + reached u (drop (i + 1) p)) 0) gone in
      omega (arith, a.reached_is)

  -- There is one.
  pub further : (next : ℕ) → i < length p → get_or p i 0 ≡ k → Some next ≡ place (below a.self.tree) k (pos + 1) → Leads ws t p (i + 1) next
  further next l e n =
      let s = a.self.tree in
      let u = place_stands (below s) k next (inside a.here) (sym n) in
      let q = kid_below s k a.unmarked in
      let y = T_true (present (find (below s) k)) u.is_present in
      let r = next_reached l e ∙ ap (λ v. cond (present v) (1 + reached v (drop (i + 1) p)) 0) q ∙ ap (λ b. cond b (1 + reached (find (below s) k) (drop (i + 1) p)) 0) y in
      record {
        self = _;
        here = u.here;
        tree_is = sym q ∙ ap (λ v. kid v k) a.tree_is ∙ ap (kid (at t (take i p))) (sym e) ∙ sym (at-++ t (take i p) (get_or p i 0 ∷ [])) ∙ ap (at t) (sym (take_more p i 0 l));
        unmarked = sym (ap marks q) ∙ unmarked_kid s k a.unmarked;
        reached_is = omega (arith, a.reached_is);
      }

-- The path has come to its end, or leads no further.
pub arrives : {ws : List ℕ} {t : Tree} {p : Path} {i pos : ℕ} → Leads ws t p i pos → length p ≤ i → reached t p ≡ i
arrives {p = p} {i = i} a l = a.reached_is ∙ ap (λ n. i + n) (at_drop_all (reached a.self.tree) p i l) ∙ omega arith

pub reaches : {ws : List ℕ} {t : Tree} {p : Path} {i pos : ℕ} → Leads ws t p i pos → reached t p ≡ i → Reaches ws t p (record { names = i; at = pos })
reaches {t = t} {p = p} a e =
    record { names = sym e; here = λ y. (a.self, a.here, a.tree_is ∙ ap (λ n. at t (take n p)) (sym e)) }

pub reaches_nothing : {ws : List ℕ} {t : Tree} {p : Path} {pos : ℕ} → nodes t ≡ 0 → Reaches ws t p (record { names = 0; at = pos })
reaches_nothing {ws} {t} {p} {pos} e = go t e
  where
    go : (t : Tree) → nodes t ≡ 0 → Reaches ws t p (record { names = 0; at = pos })
    go missing e = record { names = sym (reached_missing p); here = λ y. absurd y }
    go mark e = absurd (omega arith)
    go (node f) e = absurd (omega arith)

pub none_at : (t : Tree) (p : Path) → nodes t ≡ 0 → nodes (at t p) ≡ 0
none_at missing p e = ap nodes (at_missing p)
none_at mark p e = absurd (omega arith)
none_at (node f) p e = absurd (omega arith)
