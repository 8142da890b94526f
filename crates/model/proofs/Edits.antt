-- What an edit changes, and what it leaves.
use Rattle.std.proofs.Common.{◌≡◌, ℕ, ◌+◌, ◌<◌, ◌≤◌, max, Bool, true, false, cond, T, ◌≢◌, [], ◌∷◌, length, sym, refl, ap, ◌∙◌, inl, inr, arith}
use Rattle.std.proofs.lemmas.Bool.{cases_order, cases_eq, lt-ltb, le-ltb, eq-eqb, ne_eqb}
use Rattle.model.specs.Trees.{Tree, missing, mark, node, Forest, empty, child, find, kid, present, Path, at, add, names, Below, Ascends, WellFormed, WellFormedAll, nodes, nodes_all, marks, marks_all, depth, depth_all}
use Rattle.model.specs.Edits.{reached, fresh, set_at, set_among, HasParent, EditsKeepTheForm, EditsAreFound, EditsLeaveTheRest, EditsAreCounted, EditsBringNoMarks, EditsStayShallow}
use Rattle.model.proofs.Lists.{below_trans}
use Rattle.model.proofs.Trees.{find_below, find_head, find_tail, sound_find, add_sound}

-- An edit among children passes smaller names, changes the child of its name, and puts a new one before larger names.
pub set_skip : (n : ℕ) (t : Tree) (f : Forest) (k : ℕ) (p : Path) (u : Tree) → n < k
    → set_among (child n t f) k p u ≡ child n t (set_among f k p u)
set_skip n t f k p u l = rw (lt-ltb n k l)

pub set_here : (n : ℕ) (t : Tree) (f : Forest) (k : ℕ) (p : Path) (u : Tree) → n ≡ k
    → set_among (child n t f) k p u ≡ add k (set_at t p u) f
set_here n t f k p u e = rw (le-ltb n k (omega arith), eq-eqb n k e)

pub set_before : (n : ℕ) (t : Tree) (f : Forest) (k : ℕ) (p : Path) (u : Tree) → k < n
    → set_among (child n t f) k p u ≡ add k (fresh p u) (child n t f)
set_before n t f k p u l = rw (le-ltb n k (omega arith), ne_eqb n k (λ e. omega arith))

pub set_root : (t u : Tree) → set_at t [] u ≡ u
set_root missing u = refl
set_root mark u = refl
set_root (node f) u = refl

pub set_missing : (p : Path) (u : Tree) → set_at missing p u ≡ fresh p u
set_missing [] u = refl
set_missing (k ∷ p) u = refl

-- A child that is added.
pub below_add : (j k : ℕ) (t : Tree) (f : Forest) → j < k → Below j (names f) → Below j (names (add k t f))
below_add j k missing f l b = b
below_add j k mark f l b = (l, b)
below_add j k (node g) f l b = (l, b)

pub ascends_add : (k : ℕ) (t : Tree) (f : Forest) → Below k (names f) → Ascends (names f) → Ascends (names (add k t f))
ascends_add k missing f b a = a
ascends_add k mark f b a = (b, a)
ascends_add k (node g) f b a = (b, a)

pub find_added : (k : ℕ) (t : Tree) (f : Forest) → find f k ≡ missing → find (add k t f) k ≡ t
find_added k missing f e = e
find_added k mark f e = find_head k mark f
find_added k (node g) f e = find_head k (node g) f

pub find_beside : (j k : ℕ) (t : Tree) (f : Forest) → j ≢ k → find (add k t f) j ≡ find f j
find_beside j k missing f n = refl
find_beside j k mark f n = find_tail j k mark f n
find_beside j k (node g) f n = find_tail j k (node g) f n

pub nodes_add : (k : ℕ) (t : Tree) (f : Forest) → nodes_all (add k t f) ≡ nodes t + nodes_all f
nodes_add k missing f = omega arith
nodes_add k mark f = refl
nodes_add k (node g) f = refl

pub marks_add : (k : ℕ) (t : Tree) (f : Forest) → marks_all (add k t f) ≡ marks t + marks_all f
marks_add k missing f = omega arith
marks_add k mark f = refl
marks_add k (node g) f = refl

fresh_sound : (p : Path) (u : Tree) → WellFormed u → WellFormed (fresh p u)
fresh_sound [] u w = w
fresh_sound (k ∷ p) u w = tt

-- A name below all the others stays below them.
below_set : (j : ℕ) (f : Forest) (k : ℕ) (p : Path) (u : Tree) → j < k → Below j (names f) → Below j (names (set_among f k p u))
below_set j empty k p u l b = below_add j k (fresh p u) empty l tt
below_set j (child n t f) k p u l b =
    elim (cases_order n k) [
      | inl e ↦ rw (set_here n t f k p u e) (below_add j k (set_at t p u) f l b.1)
      | inr d ↦
          elim d [
            | inl m ↦ rw (set_skip n t f k p u m) (b.0, below_set j f k p u l b.1)
            | inr m ↦ rw (set_before n t f k p u m) (below_add j k (fresh p u) (child n t f) l b)
          ]
    ]

pub ascends_set : (f : Forest) (k : ℕ) (p : Path) (u : Tree) → Ascends (names f) → Ascends (names (set_among f k p u))
ascends_set empty k p u a = ascends_add k (fresh p u) empty tt tt
ascends_set (child n t f) k p u a =
    elim (cases_order n k) [
      | inl e ↦ let b : Below k (names f) = rw e at a.0 in rw (set_here n t f k p u e) (ascends_add k (set_at t p u) f b a.1)
      | inr d ↦
          elim d [
            | inl l ↦ rw (set_skip n t f k p u l) (below_set n f k p u l a.0, ascends_set f k p u a.1)
            | inr l ↦
                rw (set_before n t f k p u l)
                (ascends_add k (fresh p u) (child n t f) (l, below_trans k n (names f) l a.0) a)
          ]
    ]

mutual
  pub sound_set : (t : Tree) (p : Path) (u : Tree) → WellFormed t → WellFormed u → WellFormed (set_at t p u)
  sound_set missing [] u w v = v
  sound_set missing (k ∷ p) u w v = tt
  sound_set mark [] u w v = v
  sound_set mark (k ∷ p) u w v = tt
  sound_set (node f) [] u w v = v
  sound_set (node f) (k ∷ p) u w v = (ascends_set f k p u w.0, sounds_set f k p u w.1 v)

  pub sounds_set : (f : Forest) (k : ℕ) (p : Path) (u : Tree) → WellFormedAll f → WellFormed u → WellFormedAll (set_among f k p u)
  sounds_set empty k p u w v = add_sound k (fresh p u) empty (fresh_sound p u v) tt
  sounds_set (child n t f) k p u w v =
      elim (cases_order n k) [
        | inl e ↦ rw (set_here n t f k p u e) (add_sound k (set_at t p u) f (sound_set t p u w.1 v) w.2)
        | inr d ↦
            elim d [
              | inl l ↦ rw (set_skip n t f k p u l) (w.0, w.1, sounds_set f k p u w.2 v)
              | inr l ↦ rw (set_before n t f k p u l) (add_sound k (fresh p u) (child n t f) (fresh_sound p u v) w)
            ]
      ]

-- What stands under the name, and under any other.
pub find_set : (f : Forest) (k : ℕ) (p : Path) (u : Tree) → Ascends (names f) → find (set_among f k p u) k ≡ set_at (find f k) p u
find_set empty k p u a = find_added k (fresh p u) empty refl ∙ sym (set_missing p u)
find_set (child n t f) k p u a =
    elim (cases_order n k) [
      | inl e ↦
          let here = find_head n t f in
          let none = find_below f n a.0 in
          let x = set_here n t f k p u e in
          let y = find_added k (set_at t p u) f in
          let z : find f k ≡ missing = cc in
          let v = y z in
          cc
      | inr d ↦
          elim d [
            | inl l ↦
                ap (λ g. find g k) (set_skip n t f k p u l)
                ∙ find_tail k n t (set_among f k p u) (λ e. omega arith)
                ∙ find_set f k p u a.1
                ∙ ap (λ s. set_at s p u) (sym (find_tail k n t f (λ e. omega arith)))
            | inr l ↦
                let none = find_below (child n t f) k (l, below_trans k n (names f) l a.0) in
                ap (λ g. find g k) (set_before n t f k p u l)
                ∙ find_added k (fresh p u) (child n t f) none
                ∙ sym (set_missing p u)
                ∙ ap (λ s. set_at s p u) (sym none)
          ]
    ]

pub find_other : (f : Forest) (j k : ℕ) (p : Path) (u : Tree) → j ≢ k → find (set_among f k p u) j ≡ find f j
find_other empty j k p u n = find_beside j k (fresh p u) empty n
find_other (child m t f) j k p u n =
    elim (cases_order m k) [
      | inl e ↦
          ap (λ g. find g j) (set_here m t f k p u e)
          ∙ find_beside j k (set_at t p u) f n
          ∙ sym (find_tail j m t f (λ q. n (q ∙ e)))
      | inr d ↦
          elim d [
            | inl l ↦
                ap (λ g. find g j) (set_skip m t f k p u l)
                ∙ elim (cases_eq j m) [
                  | inl q ↦
                      let x = find_head m t (set_among f k p u) in
                      let y = find_head m t f in
                      cc
                  | inr q ↦ find_tail j m t (set_among f k p u) q ∙ find_other f j k p u n ∙ sym (find_tail j m t f q)
                ]
            | inr l ↦ ap (λ g. find g j) (set_before m t f k p u l) ∙ find_beside j k (fresh p u) (child m t f) n
          ]
    ]

-- The nodes of the child under the name go, and those of the edited child come.
pub nodes_among : (f : Forest) (k : ℕ) (p : Path) (u : Tree) → Ascends (names f)
    → nodes_all (set_among f k p u) + nodes (find f k) ≡ nodes_all f + nodes (set_at (find f k) p u)
nodes_among empty k p u a = omega (arith, nodes_add k (fresh p u) empty, ap nodes (set_missing p u))
nodes_among (child n t f) k p u a =
    elim (cases_order n k) [
      | inl e ↦
          let x : find (child n t f) k ≡ t = ap (find (child n t f)) (sym e) ∙ find_head n t f in
          rw (set_here n t f k p u e, x) (omega (arith, nodes_add k (set_at t p u) f))
      | inr d ↦
          elim d [
            | inl l ↦
                rw (set_skip n t f k p u l, find_tail k n t f (λ e. omega arith)) (omega (arith, nodes_among f k p u a.1))
            | inr l ↦
                rw (set_before n t f k p u l, find_below (child n t f) k (l, below_trans k n (names f) l a.0))
                (omega (arith, nodes_add k (fresh p u) (child n t f), ap nodes (set_missing p u)))
          ]
    ]

pub unmarked_find : (f : Forest) (k : ℕ) → marks_all f ≡ 0 → marks (find f k) ≡ 0
unmarked_find empty k e = refl
unmarked_find (child n t f) k e =
    let here : marks t ≡ 0 = omega arith in
    let ih = unmarked_find f k (omega arith) in
    grind arith

reached_in : (b : Bool) (n m : ℕ) → 2 + n ≤ 1 + cond b (1 + m) 0 → T b × (1 + n ≤ 1 + m)
reached_in true n m l = (tt, omega arith)
reached_in false n m l = absurd (omega arith)

-- The parent below the first name.
pub parent_below : (t : Tree) (k j : ℕ) (p : Path) → HasParent t (k ∷ j ∷ p) → HasParent (kid t k) (j ∷ p)
parent_below t k j p h =
    let r = reached_in (present (kid t k)) (length p) (reached (kid t k) (j ∷ p)) (omega (arith, h.1)) in
    (r.0, omega (arith, r.1))

pub edits_keep_the_form : EditsKeepTheForm
edits_keep_the_form = sound_set

pub edits_are_found : EditsAreFound
edits_are_found t [] u w m h = set_root t u
edits_are_found missing (k ∷ p) u w m h = absurd h.0
edits_are_found mark (k ∷ p) u w m h = absurd (omega arith)
edits_are_found (node f) (k ∷ []) u w m h = find_set f k [] u w.0 ∙ set_root (find f k) u
edits_are_found (node f) (k ∷ j ∷ p) u w m h =
    ap (λ s. at s (j ∷ p)) (find_set f k (j ∷ p) u w.0)
    ∙ edits_are_found (find f k) (j ∷ p) u (sound_find f k w.1) (unmarked_find f k m) (parent_below (node f) k j p h)

pub edits_leave_the_rest : EditsLeaveTheRest
edits_leave_the_rest t [] q u w d = absurd d
edits_leave_the_rest t (k ∷ p) [] u w d = absurd d
edits_leave_the_rest missing (k ∷ p) (j ∷ q) u w d = refl
edits_leave_the_rest mark (k ∷ p) (j ∷ q) u w d = refl
edits_leave_the_rest (node f) (k ∷ p) (j ∷ q) u w d =
    elim (cases_eq j k) [
      | inl e ↦
          ap (λ i. at (find (set_among f k p u) i) q) e
          ∙ ap (λ s. at s q) (find_set f k p u w.0)
          ∙ edits_leave_the_rest (find f k) p q u (sound_find f k w.1) (d (sym e))
          ∙ ap (λ i. at (find f i) q) (sym e)
      | inr n ↦ ap (λ s. at s q) (find_other f j k p u n)
    ]

pub edits_are_counted : EditsAreCounted
edits_are_counted t [] u w m h = omega (arith, ap nodes (set_root t u))
edits_are_counted missing (k ∷ p) u w m h = absurd h.0
edits_are_counted mark (k ∷ p) u w m h = absurd (omega arith)
edits_are_counted (node f) (k ∷ []) u w m h = omega (arith, nodes_among f k [] u w.0, ap nodes (set_root (find f k) u))
edits_are_counted (node f) (k ∷ j ∷ p) u w m h =
    omega (arith, nodes_among f k (j ∷ p) u w.0, edits_are_counted (find f k) (j ∷ p) u (sound_find f k w.1) (unmarked_find f k m) (parent_below (node f) k j p h))

marks_fresh : (p : Path) (u : Tree) → marks (fresh p u) ≤ marks u
marks_fresh [] u = omega arith
marks_fresh (k ∷ p) u = omega arith

mutual
  pub edits_bring_no_marks : EditsBringNoMarks
  edits_bring_no_marks missing [] u = omega arith
  edits_bring_no_marks missing (k ∷ p) u = omega arith
  edits_bring_no_marks mark [] u = omega arith
  edits_bring_no_marks mark (k ∷ p) u = omega arith
  edits_bring_no_marks (node f) [] u = omega arith
  edits_bring_no_marks (node f) (k ∷ p) u = marks_set f k p u

  marks_set : (f : Forest) (k : ℕ) (p : Path) (u : Tree) → marks_all (set_among f k p u) ≤ marks_all f + marks u
  marks_set empty k p u = omega (arith, marks_add k (fresh p u) empty, marks_fresh p u)
  marks_set (child n t f) k p u =
      elim (cases_order n k) [
        | inl e ↦ rw (set_here n t f k p u e) (omega (arith, marks_add k (set_at t p u) f, edits_bring_no_marks t p u))
        | inr d ↦
            elim d [
              | inl l ↦ rw (set_skip n t f k p u l) (omega (arith, marks_set f k p u))
              | inr l ↦
                  rw (set_before n t f k p u l) (omega (arith, marks_add k (fresh p u) (child n t f), marks_fresh p u))
            ]
      ]

depth_fresh : (p : Path) (u : Tree) → depth (fresh p u) ≤ depth u
depth_fresh [] u = omega arith
depth_fresh (k ∷ p) u = omega arith

depth_add : (k : ℕ) (t : Tree) (f : Forest) → depth_all (add k t f) ≤ max (1 + depth t) (depth_all f)
depth_add k missing f = omega arith
depth_add k mark f = omega arith
depth_add k (node g) f = omega arith

mutual
  pub edits_stay_shallow : EditsStayShallow
  edits_stay_shallow missing [] u = omega arith
  edits_stay_shallow missing (k ∷ p) u = omega arith
  edits_stay_shallow mark [] u = omega arith
  edits_stay_shallow mark (k ∷ p) u = omega arith
  edits_stay_shallow (node f) [] u = omega arith
  edits_stay_shallow (node f) (k ∷ p) u = omega (arith, depth_set f k p u)

  depth_set : (f : Forest) (k : ℕ) (p : Path) (u : Tree) → depth_all (set_among f k p u) ≤ max (depth_all f) (1 + length p + depth u)
  depth_set empty k p u = omega (arith, depth_add k (fresh p u) empty, depth_fresh p u)
  depth_set (child n t f) k p u =
      elim (cases_order n k) [
        | inl e ↦ rw (set_here n t f k p u e) (omega (arith, depth_add k (set_at t p u) f, edits_stay_shallow t p u))
        | inr d ↦
            elim d [
              | inl l ↦ rw (set_skip n t f k p u l) (omega (arith, depth_set f k p u))
              | inr l ↦
                  rw (set_before n t f k p u l) (omega (arith, depth_add k (fresh p u) (child n t f), depth_fresh p u))
            ]
      ]
