-- A tree that obeys still does after an edit that the parent's class allows.
use Rattle.std.proofs.Common.{◌≡◌, ℕ, true, false, cond, not, T, eqb, List, [], ◌∷◌, ◌++◌, Option, sym, refl, ap, ◌∙◌, inl, inr, arith}
use Rattle.std.proofs.lemmas.Bool.{cases_order, cases_eq, eq-eqb, ne_eqb}
use Rattle.model.specs.Trees.{Tree, missing, mark, node, Forest, empty, child, find, names, names_of, Ascends, present, insert, select, Path, at, WellFormed}
use Rattle.model.specs.Meaning.{Meaning, class_under, class_at, allowed, Obeys, ObeyAll}
use Rattle.model.specs.Edits.{fresh, set_at, set_among, PutsObey, StrikesObey}
use Rattle.model.proofs.Lists.{has, below_trans, insert_has, insert_ascends, select_has, select_ascends, ascends_ext}
use Rattle.model.proofs.Trees.{at_missing, find_below, find_head, find_tail, has_names, sound_find}
use Rattle.model.proofs.Place.{T_true, obeys_find}
use Rattle.model.proofs.Whole.{add_obeys}
use Rattle.model.proofs.Edits.{set_skip, set_here, set_before, set_root, set_missing, ascends_set, sounds_set, find_set, find_other}

-- The children obey where the edited child does.
obey_set :
    (m : Meaning) (c : Option ℕ) (f : Forest) (k : ℕ) (p : Path) (u : Tree)
    → Ascends (names f)
    → ObeyAll m c f
    → Obeys m (class_under m c k) (set_at (find f k) p u)
    → ObeyAll m c (set_among f k p u)
obey_set m c empty k p u a h o = add_obeys m c k (fresh p u) empty (rw (sym (set_missing p u)) o) tt
obey_set m c (child n t f) k p u a h o =
    elim (cases_order n k) [
      | inl e ↦
          let here : find (child n t f) k ≡ t = ap (find (child n t f)) (sym e) ∙ find_head n t f in
          rw (set_here n t f k p u e) (add_obeys m c k (set_at t p u) f (rw here at o) h.1)
      | inr d ↦
          elim d [
            | inl l ↦
                rw (set_skip n t f k p u l)
                (h.0, obey_set m c f k p u a.1 h.1 (rw (find_tail k n t f (λ e. omega arith)) at o))
            | inr l ↦
                let none = find_below (child n t f) k (l, below_trans k n (names f) l a.0) in
                let new : set_at (find (child n t f) k) p u ≡ fresh p u = ap (λ s. set_at s p u) none ∙ set_missing p u in
                rw (set_before n t f k p u l) (add_obeys m c k (fresh p u) (child n t f) (rw new at o) h)
          ]
    ]

-- The names of the children after an edit: that of the edited child, if it stands then, and the others.
module _ (f : Forest) (k : ℕ) (p : Path) (u : Tree) (w : WellFormed (node f)) (v : WellFormed u) where
  has_set : (j : ℕ) → has j (names (set_among f k p u)) ≡ cond (eqb j k) (present (set_at (find f k) p u)) (has j (names f))
  has_set j =
      has_names (set_among f k p u) j (sounds_set f k p u w.1 v)
      ∙ elim (cases_eq j k) [
        | inl e ↦ rw (eq-eqb j k e) (ap (λ i. present (find (set_among f k p u) i)) e ∙ ap present (find_set f k p u w.0))
        | inr d ↦ rw (ne_eqb j k d) (ap present (find_other f j k p u d) ∙ sym (has_names f j w.1))
      ]

  ascends : Ascends (names (set_among f k p u))
  ascends = ascends_set f k p u w.0

  names_put : present (set_at (find f k) p u) ≡ true → names (set_among f k p u) ≡ insert k (names f)
  names_put e =
      ascends_ext (names (set_among f k p u)) (insert k (names f)) ascends (insert_ascends k (names f) w.0)
      (λ j. let x = has_set j in let y = insert_has j k (names f) in grind arith)

  names_struck : present (set_at (find f k) p u) ≡ false → names (set_among f k p u) ≡ select (λ n. not (eqb n k)) (names f)
  names_struck e =
      ascends_ext (names (set_among f k p u)) (select (λ n. not (eqb n k)) (names f)) ascends (select_ascends (λ n. not (eqb n k)) (names f) w.0)
      (λ j. let x = has_set j in let y = select_has (λ n. not (eqb n k)) j (names f) in grind arith)

  names_kept : present (find f k) ≡ true → present (set_at (find f k) p u) ≡ true → names (set_among f k p u) ≡ names f
  names_kept i e =
      ascends_ext (names (set_among f k p u)) (names f) ascends w.0
      (λ j. has_set j ∙ elim (cases_eq j k) [
        | inl q ↦ rw (eq-eqb j k q) (e ∙ sym i ∙ sym (has_names f k w.1) ∙ ap (λ n. has n (names f)) (sym q))
        | inr d ↦ rw (ne_eqb j k d)
      ])

-- The names under a place once u is put under the name k there.
abbrev with_name : ℕ → Tree → List ℕ → List ℕ
with_name k u ks = cond (present u) (insert k ks) (select (λ n. not (eqb n k)) ks)

names_here : (f : Forest) (k : ℕ) (u : Tree) → WellFormed (node f) → WellFormed u → names (set_among f k [] u) ≡ with_name k u (names f)
names_here f k missing w v = names_struck f k [] missing w v (ap present (set_root (find f k) missing))
names_here f k mark w v = names_put f k [] mark w v (ap present (set_root (find f k) mark))
names_here f k (node g) w v = names_put f k [] (node g) w v (ap present (set_root (find f k) (node g)))

-- What stands above something stands, and an edit below it leaves it standing.
pub stands_above : (t : Tree) (q : Path) → T (present (at t q)) → T (present t)
stands_above missing q h = rw (at_missing q) at h
stands_above mark q h = tt
stands_above (node f) q h = tt

still_stands : (t : Tree) (q : Path) (k : ℕ) (u : Tree) → T (present t) → present (set_at t (q ++ k ∷ []) u) ≡ true
still_stands missing q k u h = absurd h
still_stands mark [] k u h = refl
still_stands mark (j ∷ q) k u h = refl
still_stands (node f) [] k u h = refl
still_stands (node f) (j ∷ q) k u h = refl

edit_obeys :
    (m : Meaning) (c : Option ℕ) (t : Tree) (q : Path) (k : ℕ) (u : Tree)
    → WellFormed t
    → WellFormed u
    → Obeys m c t
    → T (present (at t q))
    → T (allowed m (class_at m c q) (with_name k u (names_of (at t q))))
    → Obeys m (class_at m c (q ++ k ∷ [])) u
    → Obeys m c (set_at t (q ++ k ∷ []) u)
edit_obeys m c missing q k u w v h s a o = absurd (stands_above missing q s)
edit_obeys m c mark q k u w v h s a o = absurd h
edit_obeys m c (node f) [] k u w v h s a o =
    (rw (names_here f k u w v) a, obey_set m c f k [] u w.0 h.1 (rw (set_root (find f k) u) o))
edit_obeys m c (node f) (j ∷ q) k u w v h s a o =
    let below = stands_above (find f j) q s in
    let names_stay = names_kept f j (q ++ k ∷ []) u w v (T_true (present (find f j)) below) (still_stands (find f j) q k u below) in (
      rw names_stay h.0,
      obey_set m c f j (q ++ k ∷ []) u w.0 h.1
          (edit_obeys m (class_under m c j) (find f j) q k u (sound_find f j w.1) v (obeys_find m c f j h.1) s a o),
    )

pub puts_obey : PutsObey
puts_obey m c t q k missing w v h s a i o = absurd i
puts_obey m c t q k mark w v h s a i o = edit_obeys m c t q k mark w v h s a o
puts_obey m c t q k (node f) w v h s a i o = edit_obeys m c t q k (node f) w v h s a o

pub strikes_obey : StrikesObey
strikes_obey m c t q k w h s a = edit_obeys m c t q k missing w tt h s a tt
