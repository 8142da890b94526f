-- The lowest name of two ascending forests, and what is behind it.
use Rattle.std.proofs.Common.{◌≡◌, ℕ, ◌+◌, ◌<◌, Bool, true, false, ◌||◌, List, [], ◌∷◌, sym, refl, ap, ◌∙◌, subst, inl, inr, arith}
use Rattle.std.proofs.lemmas.Bool.{cases_eq, cases_lt, lt-ltb, le-ltb, eq-eqb, ne_eqb}
use Rattle.model.specs.Trees.{Tree, missing, Forest, empty, child, find, names, Below, Ascends, nodes, nodes_all, insert, union}
use Rattle.model.proofs.Lists.{below_trans, insert_below}
use Rattle.model.proofs.Trees.{not_there}
use Rattle.stored.specs.Lookup.{Between, smaller, from_on, starts}
use Rattle.stored.specs.Lookup.{Spot, at_of, is_found}
use Rattle.stored.proofs.Lookup.{passed, stopped, onward, starts_present, starts_find, behind, ascends_onward, between_onward, found_there, found_behind}
use Rattle.merging.specs.Tables.{At, gone, there}
use Rattle.merging.specs.Looking.{Floor, Least, Seen}
use Rattle.merging.proofs.Finding.{not_both}

insert_front : (k : ℕ) (ns : List ℕ) → Below k ns → insert k ns ≡ k ∷ ns
insert_front k [] h = refl
insert_front k (n ∷ ns) h = rw (lt-ltb k n h.0)

pub union_below : (k : ℕ) (xs ys : List ℕ) → Below k xs → Below k ys → Below k (union xs ys)
union_below k [] ys h g = g
union_below k (x ∷ xs) ys h g = insert_below k x (union xs ys) h.0 (union_below k xs ys h.1 g)

union_first : (k : ℕ) (xs ys : List ℕ) → Below k xs → Below k ys → union (k ∷ xs) ys ≡ k ∷ union xs ys
union_first k xs ys h g = insert_front k (union xs ys) (union_below k xs ys h g)

union_second : (k : ℕ) (xs ys : List ℕ) → Below k xs → union xs (k ∷ ys) ≡ k ∷ union xs ys
union_second k [] ys h = refl
union_second k (x ∷ xs) ys h =
    ap (insert x) (union_second k xs ys h.1) ∙ rw (le-ltb x k (omega (arith, h.0)), ne_eqb x k (λ e. omega (arith, h.0)))

union_both : (k : ℕ) (xs ys : List ℕ) → Below k xs → union (k ∷ xs) (k ∷ ys) ≡ k ∷ union xs ys
union_both k xs ys h = ap (insert k) (union_second k xs ys h) ∙ rw (le-ltb k k (omega arith), eq-eqb k k refl)

-- What is left of an ascending forest behind the names up to k.
above : (k : ℕ) (f : Forest) → Below k (names f) → from_on (k + 1) f ≡ f
above k empty b = refl
above k (child n t f) b = stopped (k + 1) n t f (omega (arith, b.0))

pub record Front (k : ℕ) (f : Forest) (leads : Bool) : Type 0 where
  pub higher : Below k (names (from_on (k + 1) f))
  pub first : leads ≡ true → names f ≡ k ∷ names (from_on (k + 1) f)
  pub later : leads ≡ false → names f ≡ names (from_on (k + 1) f)

front : (k : ℕ) (f : Forest) → Floor k f → Ascends (names f) → Front k f (starts k f)
front k empty l a = record { higher = tt; first = λ e. not_both e refl; later = λ e. refl }
front k (child n t f) l a =
    elim (cases_eq n k) [
      | inl e ↦
          let b : Below k (names f) = subst (λ i. Below i (names f)) e a.0 in
          let q : from_on (k + 1) (child n t f) ≡ f = passed (k + 1) n t f (omega arith) ∙ above k f b in
          record {
            higher = subst (λ g. Below k (names g)) (sym q) b;
            first = λ i. ap (λ j. j ∷ names f) e ∙ ap (λ g. k ∷ names g) (sym q);
            later = λ i. not_both (eq-eqb n k e) i;
          }
      | inr e ↦
          let m : k < n = omega arith in
          let b : Below k (n ∷ names f) = (m, below_trans k n (names f) m a.0) in
          let q = above k (child n t f) b in
          record {
            higher = subst (λ g. Below k (names g)) (sym q) b;
            first = λ i. not_both i (ne_eqb n k e);
            later = λ i. ap names (sym q);
          }
    ]

pub record Next (k : ℕ) (f g : Forest) : Type 0 where
  pub names_are : union (names f) (names g) ≡ k ∷ union (names (from_on (k + 1) f)) (names (from_on (k + 1) g))
  pub higher : Below k (union (names (from_on (k + 1) f)) (names (from_on (k + 1) g)))

pub next : (k : ℕ) (f g : Forest) → Least k f g → Ascends (names f) → Ascends (names g) → Next k f g
next k f g l a b = go (starts k f) (starts k g) (front k f l.first_floor a) (front k g l.second_floor b) l.there
  where
    go : (x y : Bool) → Front k f x → Front k g y → (x || y) ≡ true → Next k f g
    go true true p q e =
        record {
          names_are = (λ i. union (p.first refl i) (q.first refl i)) ∙ union_both k _ _ p.higher;
          higher = union_below k _ _ p.higher q.higher;
        }
    go true false p q e =
        record {
          names_are = (λ i. union (p.first refl i) (q.later refl i)) ∙ union_first k _ _ p.higher q.higher;
          higher = union_below k _ _ p.higher q.higher;
        }
    go false true p q e =
        record {
          names_are = (λ i. union (p.later refl i) (q.first refl i)) ∙ union_second k _ _ p.higher;
          higher = union_below k _ _ p.higher q.higher;
        }
    go false false p q e = not_both e refl

-- What a lookup tells of an ascending forest.
below_behind : (k : ℕ) (f : Forest) (t : Tree) (g : Forest) → f ≡ child k t g → Ascends (names f) → Below k (names g)
below_behind k f t g e a = (subst (λ h. Ascends (names h)) e a).0

not_started : (k : ℕ) (f : Forest) → starts k (from_on k f) ≡ false → from_on (k + 1) (from_on k f) ≡ from_on k f
not_started k empty h = refl
not_started k (child n t f) h =
    elim (cases_lt n k) [
      | inl l ↦ subst (λ g. from_on (k + 1) g ≡ g) (sym (passed k n t f l)) (not_started k f (ap (starts k) (sym (passed k n t f l)) ∙ h))
      | inr l ↦
          let s = stopped k n t f l in
          subst (λ g. from_on (k + 1) g ≡ g) (sym s)
          (stopped (k + 1) n t f (elim (cases_eq n k) [ inl e ↦ not_both (eq-eqb n k e) (ap (starts k) (sym s) ∙ h) | inr e ↦ omega arith ]))
    ]

pub seen : {ws : List ℕ} {from end : ℕ} {f : Forest} {s : Spot} (k : ℕ) → Between ws from end f → Ascends (names f)
    → at_of s ≡ from + nodes_all (smaller k f) → is_found s ≡ starts k (from_on k f) → Seen ws from end k f s
seen {ws} {from} {end} {f} {s} k b a x y = go (starts k (from_on k f)) refl
  where
    go : (v : Bool) → starts k (from_on k f) ≡ v → Seen ws from end k f s
    go true e =
        let u = found_there k b e in
        let g = behind (from_on k f) in
        let v = found_behind k b e in
        let q : from_on (k + 1) f ≡ g =
        onward k (k + 1) f (omega arith)
        ∙ ap (from_on (k + 1)) (starts_find k f e)
        ∙ passed (k + 1) k (find f k) g (omega arith)
        ∙ above k g (below_behind k (from_on k f) (find f k) g (starts_find k f e) (ascends_onward k f a)) in
        record {
          since = omega (arith, x);
          here = there {rest = u.rest} {p = u.is_present} {w = u.well_formed} (y ∙ e) (rw x u.here);
          then = subst (λ h. Between ws (at_of s + nodes (find f k)) end h) (sym q) (subst (λ i. Between ws (i + nodes (find f k)) end g) (sym x) v);
        }
    go false e =
        let m : find f k ≡ missing = not_there (find f k) (sym (starts_present k f a b.row.well_formed) ∙ e) in
        let q = onward k (k + 1) f (omega arith) ∙ not_started k f e in
        let z : from + nodes_all (smaller k f) ≡ at_of s + nodes (find f k) = omega (arith, ap nodes m) in
        record {
          since = omega (arith, x);
          here = subst (At ws k s) (sym m) (gone (y ∙ e));
          then = subst (λ h. Between ws (at_of s + nodes (find f k)) end h) (sym q) (subst (λ i. Between ws i end (from_on k f)) z (between_onward k b));
        }
