-- What a lookup among siblings tells.
use Rattle.std.proofs.Common.{◌≡◌, ℕ, ◌+◌, ◌<◌, ◌≤◌, true, T, eqb, List, sym, refl, ap, ◌∙◌, subst, inl, inr, arith}
use Rattle.std.proofs.lemmas.Bool.{cases_order, cases_lt, lt-ltb, le-ltb, eq-eqb, ne_eqb, eqb-true, cond-true, false≢true}
use Rattle.model.specs.Trees.{Tree, missing, mark, node, Forest, empty, child, find, names, Ascends, present, WellFormed, WellFormedAll, nodes, nodes_all}
use Rattle.model.proofs.Place.{T_true}
use Rattle.model.proofs.Lists.{below_trans}
use Rattle.model.proofs.Trees.{find_below, find_tail}
use Rattle.stored.specs.Words.{emits, below, Stored, Stands, Row}
use Rattle.stored.specs.Lookup.{Between, smaller, from_on, starts}
use Rattle.stored.proofs.Places.{nodes_below, inside, first, second}
use Rattle.stored.proofs.Forests.{join, nodes_join, row_behind}

-- Both parts make up the forest.
pub parts : (k : ℕ) (f : Forest) → join (smaller k f) (from_on k f) ≡ f
parts k empty = refl
parts k (child n t f) = elim (cases_lt n k) [ inl l ↦ rw (lt-ltb n k l) (ap (child n t) (parts k f)) | inr l ↦ rw (le-ltb n k l) ]

pub nodes_parts : (k : ℕ) (f : Forest) → nodes_all (smaller k f) + nodes_all (from_on k f) ≡ nodes_all f
nodes_parts k f = sym (nodes_join (smaller k f) (from_on k f)) ∙ ap nodes_all (parts k f)

-- A lookup passes a smaller name, and stops at any other.
pub passed : (k n : ℕ) (t : Tree) (f : Forest) → n < k → from_on k (child n t f) ≡ from_on k f
passed k n t f l = rw (lt-ltb n k l)

pub stopped : (k n : ℕ) (t : Tree) (f : Forest) → k ≤ n → from_on k (child n t f) ≡ child n t f
stopped k n t f l = rw (le-ltb n k l)

pub nodes_passed : (k n : ℕ) (t : Tree) (f : Forest) → n < k → nodes_all (smaller k (child n t f)) ≡ nodes t + nodes_all (smaller k f)
nodes_passed k n t f l = rw (lt-ltb n k l)

pub none_passed : (k n : ℕ) (t : Tree) (f : Forest) → k ≤ n → nodes_all (smaller k (child n t f)) ≡ 0
none_passed k n t f l = rw (le-ltb n k l)

-- From where a lookup stopped, the next may go on to a name that is not smaller.
pub onward : (j k : ℕ) (f : Forest) → j ≤ k → from_on k f ≡ from_on k (from_on j f)
onward j k empty l = refl
onward j k (child n t f) l =
    elim (cases_lt n j) [
      | inl m ↦ passed k n t f (omega arith) ∙ onward j k f l ∙ ap (from_on k) (sym (passed j n t f m))
      | inr m ↦ ap (from_on k) (sym (stopped j n t f m))
    ]

pub find_onward : (j k : ℕ) (f : Forest) → j ≤ k → find f k ≡ find (from_on j f) k
find_onward j k empty l = refl
find_onward j k (child n t f) l =
    elim (cases_lt n j) [
      | inl m ↦ find_tail k n t f (λ e. omega arith) ∙ find_onward j k f l ∙ ap (λ g. find g k) (sym (passed j n t f m))
      | inr m ↦ ap (λ g. find g k) (sym (stopped j n t f m))
    ]

pub ascends_onward : (k : ℕ) (f : Forest) → Ascends (names f) → Ascends (names (from_on k f))
ascends_onward k empty a = tt
ascends_onward k (child n t f) a =
    elim (cases_lt n k) [ inl l ↦ rw (lt-ltb n k l) (ascends_onward k f a.1) | inr l ↦ rw (le-ltb n k l) a ]

-- Where names ascend, the lookup stops at the name or the name is not there.
pub starts_present : (k : ℕ) (f : Forest) → Ascends (names f) → WellFormedAll f → starts k (from_on k f) ≡ present (find f k)
starts_present k empty a w = refl
starts_present k (child n t f) a w =
    elim (cases_order n k) [
      | inl e ↦
          ap (starts k) (stopped k n t f (omega arith))
          ∙ eq-eqb n k e
          ∙ sym (T_true (present t) w.0)
          ∙ ap present (sym (cond-true (eqb k n) t (find f k) (eq-eqb k n (sym e))))
      | inr d ↦
          elim d [
            | inl l ↦
                ap (starts k) (passed k n t f l)
                ∙ starts_present k f a.1 w.2
                ∙ ap present (sym (find_tail k n t f (λ e. omega arith)))
            | inr l ↦
                ap (starts k) (stopped k n t f (omega arith))
                ∙ ne_eqb n k (λ e. omega arith)
                ∙ ap present (sym (find_below (child n t f) k (l, below_trans k n (names f) l a.0)))
          ]
    ]

-- All but the first tree.
abbrev pub behind : Forest → Forest
behind empty = empty
behind (child n t f) = f

starts_view : (k : ℕ) (f : Forest) → starts k f ≡ true → f ≡ child k (find f k) (behind f)
starts_view k empty h = absurd (false≢true h)
starts_view k (child n t f) h =
    let e = eqb-true n k h in
    let q = cond-true (eqb k n) t (find f k) (eq-eqb k n (sym e)) in
    cc

-- Where the lookup stops at the name, it stops at the tree.
pub starts_find : (k : ℕ) (f : Forest) → starts k (from_on k f) ≡ true → from_on k f ≡ child k (find f k) (behind (from_on k f))
starts_find k f h =
    starts_view k (from_on k f) h ∙ ap (λ t. child k t (behind (from_on k f))) (sym (find_onward k k f (omega arith)))

-- The trees that are not passed stand where the lookup stops.
pub row_onward : {ws : List ℕ} {at : ℕ} {f : Forest} {rest : List ℕ} (k : ℕ) → Row ws at f rest
    → Row ws (at + nodes_all (smaller k f)) (from_on k f) rest
row_onward {ws} {at} {f} {rest} k h =
    row_behind (smaller k f) (from_on k f) (subst (λ g. Row ws at g rest) (sym (parts k f)) h)

pub between_onward : {ws : List ℕ} {from end : ℕ} {f : Forest} (k : ℕ) → Between ws from end f
    → Between ws (from + nodes_all (smaller k f)) end (from_on k f)
between_onward {f = f} k b = record { rest = b.rest; row = row_onward k b.row; ends = omega (arith, b.ends, nodes_parts k f) }

pub between_behind : {ws : List ℕ} {from end n : ℕ} {t : Tree} {f : Forest} → Between ws from end (child n t f)
    → Between ws (from + nodes t) end f
between_behind b = record { rest = b.rest; row = second b.row; ends = omega (arith, b.ends) }

-- A tree that stands under a name.
pub record Under (ws : List ℕ) (at name : ℕ) (tree : Tree) : Type 0 where
  pub rest : List ℕ
  pub is_present : T (present tree)
  pub well_formed : WellFormed tree
  pub here : Stands ws at (record { name = name; tree = tree; rest = rest; is_present = is_present; well_formed = well_formed })

pub under : {ws : List ℕ} {at n : ℕ} {t : Tree} {f : Forest} {rest : List ℕ} → Row ws at (child n t f) rest → Under ws at n t
under {f = f} {rest = rest} h =
    record { rest = emits f rest; is_present = h.well_formed.0; well_formed = h.well_formed.1; here = first h }

-- Where the lookup stops at the name, the tree stands there, and the others stand behind it.
module _ {ws : List ℕ} {from end : ℕ} {f : Forest} (k : ℕ) (b : Between ws from end f) (h : starts k (from_on k f) ≡ true) where
  pub found_there : Under ws (from + nodes_all (smaller k f)) k (find f k)
  found_there =
      under (subst (λ g. Row ws (from + nodes_all (smaller k f)) g b.rest) (starts_find k f h) (row_onward k b.row))

  pub found_behind : Between ws (from + nodes_all (smaller k f) + nodes (find f k)) end (behind (from_on k f))
  found_behind =
      between_behind (subst (Between ws (from + nodes_all (smaller k f)) end) (starts_find k f h) (between_onward k b))

-- The children of a tree are all that stands between its node and what is behind it.
pub between_children : {ws : List ℕ} {at end : ℕ} {s : Stored} → Stands ws at s → end ≡ at + nodes s.tree
    → Between ws (at + 1) end (below s.tree)
between_children {s = s} h e =
    record { rest = s.rest; row = inside h; ends = omega (arith, nodes_below s.tree s.is_present) }

pub ascends_below : (t : Tree) → WellFormed t → Ascends (names (below t))
ascends_below missing w = tt
ascends_below mark w = tt
ascends_below (node f) w = w.0
