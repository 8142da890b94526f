-- Siblings, split at a name: the smaller ones, the one under the name, and the larger ones.
use Rattle.std.proofs.Common.{◌≡◌, ℕ, ◌+◌, ◌*◌, ◌<◌, not, T, eqb, List, [], ◌∷◌, ◌++◌, drop, sym, refl, ap, ◌∙◌, subst, inl, inr, arith}
use Rattle.std.proofs.lemmas.Bool.{cases_order, cases_lt, lt-ltb, le-ltb, eq-eqb, ne_eqb}
use Rattle.model.specs.Trees.{Tree, missing, mark, node, Forest, empty, child, find, names, present, Below, Ascends, WellFormedAll, add, insert, select, nodes, nodes_all, Path}
use Rattle.model.specs.Edits.{set_at, set_among}
use Rattle.model.proofs.Lists.{below_trans}
use Rattle.model.proofs.Trees.{find_head, find_tail, find_below}
use Rattle.model.proofs.Edits.{set_here, set_skip, set_before, set_missing, nodes_add}
use Rattle.stored.specs.Words.{emit, emits, Row}
use Rattle.stored.specs.Lookup.{smaller}
use Rattle.stored.proofs.Places.{second}
use Rattle.stored.proofs.Forests.{join, nodes_join, emits_join, row_behind}
use Rattle.editing.specs.Splitting.{larger}

-- How the parts go on at the first of the siblings.
module _ (n : ℕ) (t : Tree) (f : Forest) (k : ℕ) where
  smaller_skip : n < k → smaller k (child n t f) ≡ child n t (smaller k f)
  smaller_skip l = rw (lt-ltb n k l)

  smaller_here : n ≡ k → smaller k (child n t f) ≡ empty
  smaller_here e = rw (le-ltb n k (omega arith))

  smaller_before : k < n → smaller k (child n t f) ≡ empty
  smaller_before l = rw (le-ltb n k (omega arith))

  larger_skip : n < k → larger k (child n t f) ≡ larger k f
  larger_skip l = rw (lt-ltb n k l)

  larger_here : n ≡ k → larger k (child n t f) ≡ f
  larger_here e = rw (le-ltb n k (omega arith), eq-eqb n k e)

  larger_before : k < n → larger k (child n t f) ≡ child n t f
  larger_before l = rw (le-ltb n k (omega arith), ne_eqb n k (λ e. omega arith))

  found_here : n ≡ k → find (child n t f) k ≡ t
  found_here e = ap (find (child n t f)) (sym e) ∙ find_head n t f

  found_later : n < k → find (child n t f) k ≡ find f k
  found_later l = find_tail k n t f (λ e. omega arith)

  found_nowhere : k < n → Ascends (names (child n t f)) → find (child n t f) k ≡ missing
  found_nowhere l a = find_below (child n t f) k (l, below_trans k n (names f) l a.0)

-- An edit under the name puts the parts together again, with another tree between them.
pub set_between : (f : Forest) (k : ℕ) (p : Path) (u : Tree) → Ascends (names f)
    → set_among f k p u ≡ join (smaller k f) (add k (set_at (find f k) p u) (larger k f))
set_between empty k p u a = ap (λ t. add k t empty) (sym (set_missing p u))
set_between (child n t f) k p u a =
    elim (cases_order n k) [
      | inl e ↦ rw (set_here n t f k p u e, smaller_here n t f k e, larger_here n t f k e, found_here n t f k e)
      | inr d ↦
          elim d [
            | inl l ↦
                rw (set_skip n t f k p u l, smaller_skip n t f k l, larger_skip n t f k l, found_later n t f k l)
                (ap (child n t) (set_between f k p u a.1))
            | inr l ↦
                rw (set_before n t f k p u l, smaller_before n t f k l, larger_before n t f k l, found_nowhere n t f k l a, set_missing p u)
          ]
    ]

pub add_present : (k : ℕ) (t : Tree) (f : Forest) → T (present t) → add k t f ≡ child k t f
add_present k missing f p = absurd p
add_present k mark f p = refl
add_present k (node g) f p = refl

-- The parts make up the siblings.
pub all_parts : (f : Forest) (k : ℕ) → Ascends (names f) → WellFormedAll f → join (smaller k f) (add k (find f k) (larger k f)) ≡ f
all_parts empty k a w = refl
all_parts (child n t f) k a w =
    elim (cases_order n k) [
      | inl e ↦
          rw (smaller_here n t f k e, larger_here n t f k e, found_here n t f k e, add_present k t f w.0) (ap (λ j. child j t f) (sym e))
      | inr d ↦
          elim d [
            | inl l ↦
                rw (smaller_skip n t f k l, larger_skip n t f k l, found_later n t f k l) (ap (child n t) (all_parts f k a.1 w.2))
            | inr l ↦ rw (smaller_before n t f k l, larger_before n t f k l, found_nowhere n t f k l a)
          ]
    ]

-- The names with one more, and with one less.
pub names_with : (f : Forest) (k : ℕ) → insert k (names f) ≡ names (smaller k f) ++ k ∷ names (larger k f)
names_with empty k = refl
names_with (child n t f) k =
    elim (cases_order n k) [
      | inl e ↦
          rw (smaller_here n t f k e, larger_here n t f k e, le-ltb k n (omega arith), eq-eqb k n (sym e)) (ap (λ j. j ∷ names f) e)
      | inr d ↦
          elim d [
            | inl l ↦
                rw (smaller_skip n t f k l, larger_skip n t f k l, le-ltb k n (omega arith), ne_eqb k n (λ e. omega arith))
                (ap (λ ns. n ∷ ns) (names_with f k))
            | inr l ↦ rw (smaller_before n t f k l, larger_before n t f k l, lt-ltb k n l)
          ]
    ]

select_above : (k : ℕ) (ns : List ℕ) → Below k ns → select (λ n. not (eqb n k)) ns ≡ ns
select_above k [] b = refl
select_above k (n ∷ ns) b = rw (ne_eqb n k (λ e. omega (arith, b.0))) (ap (λ l. n ∷ l) (select_above k ns b.1))

pub names_without : (f : Forest) (k : ℕ) → Ascends (names f)
    → select (λ n. not (eqb n k)) (names f) ≡ names (smaller k f) ++ names (larger k f)
names_without empty k a = refl
names_without (child n t f) k a =
    elim (cases_order n k) [
      | inl e ↦
          let b : Below k (names f) = rw e at a.0 in
          rw (smaller_here n t f k e, larger_here n t f k e, eq-eqb n k e) (select_above k (names f) b)
      | inr d ↦
          elim d [
            | inl l ↦
                rw (smaller_skip n t f k l, larger_skip n t f k l, ne_eqb n k (λ e. omega arith))
                (ap (λ ns. n ∷ ns) (names_without f k a.1))
            | inr l ↦
                rw (smaller_before n t f k l, larger_before n t f k l)
                (select_above k (n ∷ names f) (l, below_trans k n (names f) l a.0))
          ]
    ]

-- The words of a child that is added, or of none.
pub emits_add : (k : ℕ) (t : Tree) (f : Forest) (rest : List ℕ) → emits (add k t f) rest ≡ emit t k (emits f rest)
emits_add k missing f rest = refl
emits_add k mark f rest = refl
emits_add k (node g) f rest = refl

behind_added : {ws : List ℕ} {at : ℕ} {rest : List ℕ} (k : ℕ) (t : Tree) (f : Forest) → Row ws at (add k t f) rest
    → Row ws (at + nodes t) f rest
behind_added {ws} {at} {rest} k missing f h = let e : at ≡ at + 0 = omega arith in subst (λ i. Row ws i f rest) e h
behind_added k mark f h = second h
behind_added k (node g) f h = second h

sound_smaller : (k : ℕ) (f : Forest) → WellFormedAll f → WellFormedAll (smaller k f)
sound_smaller k empty w = tt
sound_smaller k (child n t f) w =
    elim (cases_lt n k) [ inl l ↦ rw (lt-ltb n k l) (w.0, w.1, sound_smaller k f w.2) | inr l ↦ rw (le-ltb n k l) tt ]

module _ (f : Forest) (k : ℕ) (a : Ascends (names f)) (w : WellFormedAll f) where
  pub nodes_split : nodes_all (smaller k f) + (nodes (find f k) + nodes_all (larger k f)) ≡ nodes_all f
  nodes_split =
      omega (arith, nodes_join (smaller k f) (add k (find f k) (larger k f)), nodes_add k (find f k) (larger k f), ap nodes_all (all_parts f k a w))

  -- Their words.
  pub emits_split : (rest : List ℕ) → emits f rest ≡ emits (smaller k f) (emit (find f k) k (emits (larger k f) rest))
  emits_split rest =
      ap (λ g. emits g rest) (sym (all_parts f k a w))
      ∙ emits_join (smaller k f) (add k (find f k) (larger k f)) rest
      ∙ ap (emits (smaller k f)) (emits_add k (find f k) (larger k f) rest)

  -- The smaller ones stand first, and the larger ones behind the child under the name.
  pub row_smaller : {ws : List ℕ} {at : ℕ} {rest : List ℕ} → Row ws at f rest
      → Row ws at (smaller k f) (emit (find f k) k (emits (larger k f) rest))
  row_smaller {rest = rest} h = record { well_formed = sound_smaller k f w; words = h.words ∙ emits_split rest }

  -- Behind the smaller ones stands the child under the name, if there is one.
  pub words_from : {ws : List ℕ} {at : ℕ} {rest : List ℕ} → Row ws at f rest
      → drop (3 * (at + nodes_all (smaller k f))) ws ≡ emit (find f k) k (emits (larger k f) rest)
  words_from {ws} {at} {rest} h =
      (row_behind (smaller k f) (add k (find f k) (larger k f)) (subst (λ g. Row ws at g rest) (sym (all_parts f k a w)) h)).words
      ∙ emits_add k (find f k) (larger k f) rest

  pub row_larger : {ws : List ℕ} {at : ℕ} {rest : List ℕ} → Row ws at f rest
      → Row ws (at + nodes_all (smaller k f) + nodes (find f k)) (larger k f) rest
  row_larger {ws} {at} {rest} h =
      behind_added k (find f k) (larger k f)
      (row_behind (smaller k f) (add k (find f k) (larger k f)) (subst (λ g. Row ws at g rest) (sym (all_parts f k a w)) h))
