-- The test of a node and all below it, child by child.
use Rattle.std.proofs.Common.{◌≡◌, ℕ, ◌+◌, ◌-◌, ◌<◌, ◌≤◌, Bool, true, false, cond, T, List, [], ◌∷◌, ◌++◌, length, take, set, Some, None, Option, MatchOption, Bor, sym, refl, ap, ◌∙◌, subst, append_assoc, append-nil, arith, length-append, length-take, length-set}
use Rattle.std.proofs.lemmas.List.{take_more_set, take_all}
use Rattle.std.proofs.lemmas.Option.{MatchOption-at_some}
use Rattle.std.specs.List.{IsFirstAndRest}
use Rattle.std.specs.Option.{option_or}
use Rattle.model.specs.Trees.{Tree, missing, mark, node, Forest, empty, child, names, present, WellFormed, WellFormedAll, nodes, nodes_all}
use Rattle.model.specs.Meaning.{Meaning, class_under, allowed}
use Rattle.model.specs.Faults.{or_else, fault_from, fault_among}
use Rattle.records.specs.declared.Entry.{Entry}
use Rattle.records.specs.Bytes.{entry_of, entries_of}
use Rattle.records.specs.Writing.{tell, tells}
use Rattle.records.proofs.Chunks.{length_entries_of}
use Rattle.records.proofs.Laws.{length_tell}
use Rattle.records.proofs.Fits.{names_few}
use Rattle.obeying.specs.Heading.{Heads}

abbrev pub below : Tree → Forest
below missing = empty
below mark = empty
below (node f) = f

-- The first record of those that are there.
pub first_and_rest : {o : Option (Bor (List ℕ) × Bor (List (List ℕ)))} {rs : List (List ℕ)} {p : Bor (List ℕ) × Bor (List (List ℕ))} → o ≡ Some p
    → MatchOption o (length rs ≡ 0) (λ q. IsFirstAndRest rs q.0.now q.1.now) → (rs ≡ p.0.now ∷ p.1.now) × (length p.1.now + 1 ≡ length rs)
first_and_rest {rs = rs} h m = MatchOption-at_some _ _ _ h m

some : (t : Tree) → T (present t) → 1 ≤ nodes t
some missing p = absurd p
some mark p = omega arith
some (node f) p = omega arith

pub or_is : (a b : Option ℕ) → option_or a b ≡ or_else a b
or_is None b = refl
or_is (Some n) b = refl

or_assoc : (a b c : Option ℕ) → or_else (or_else a b) c ≡ or_else a (or_else b c)
or_assoc None b c = refl
or_assoc (Some n) b c = refl

or_none : (a : Option ℕ) → or_else a None ≡ a
or_none None = refl
or_none (Some n) = refl

-- A mark is a node that no class allows.
pub marked : (m : Meaning) (c : Option ℕ) {e : Entry} {es more : List Entry} {t : Tree} → Heads e es t more → e.kind ≡ 1 → (n : ℕ) → (Some n ≡ fault_from m c t n) × (es ≡ more)
marked m c {e} {es} {more} {t} h k n = go t h.is_present h.told
  where
    go : (t : Tree) → T (present t) → e ∷ es ≡ tell t e.name more → (Some n ≡ fault_from m c t n) × (es ≡ more)
    go missing p q = absurd p
    go mark p q = (refl, cc)
    go (node f) p q = let z : e.kind ≡ 0 = cc in absurd (omega arith)

-- A node that is no mark.
pub record Opened (m : Meaning) (c : Option ℕ) (e : Entry) (es : List Entry) (t : Tree) (more : List Entry) : Type 0 where
  pub told : es ≡ tells (below t) more
  pub many : e.children ≡ length (names (below t))
  pub formed : WellFormedAll (below t)
  pub number : nodes t ≡ 1 + nodes_all (below t)
  pub fault : (n : ℕ) → fault_from m c t n ≡ cond (allowed m c (names (below t))) (fault_among m c (below t) (n + 1)) (Some n)

-- A mark is told by its kind, and by that alone where there are no children.
no_mark : {m : Meaning} {c : Option ℕ} {e : Entry} {es more : List Entry} {t : Tree} → Heads e es t more → (e.kind ≡ 1 → e.children ≡ 0 → ⊥) → Opened m c e es t more
no_mark {m} {c} {e} {es} {more} {t} h n = go t h.is_present h.well_formed h.told
  where
    go : (t : Tree) → T (present t) → WellFormed t → e ∷ es ≡ tell t e.name more → Opened m c e es t more
    go missing p s q = absurd p
    go mark p s q = let k : e.kind ≡ 1 = cc in let z : e.children ≡ 0 = cc in absurd (n k z)
    go (node f) p s q = record { told = cc; many = cc; formed = s.1; number = refl; fault = λ n. refl }

pub opened : (m : Meaning) (c : Option ℕ) {e : Entry} {es more : List Entry} {t : Tree} → Heads e es t more → (e.children ≡ 0 → ⊥) → Opened m c e es t more
opened m c h n = no_mark h (λ k z. n z)

-- One without children.
pub bare : (m : Meaning) (c : Option ℕ) {e : Entry} {es more : List Entry} {t : Tree} {code : ℕ} {own : Option ℕ} → Heads e es t more → e.children ≡ 0 → code ≡ 1 → (e.kind ≡ code → ⊥)
    → (n : ℕ) → own ≡ cond (allowed m c []) None (Some n) → own ≡ fault_from m c t n
bare m c {t = t} h z q k n o = let x = no_mark {m = m} {c = c} h (λ j l. k (j ∙ sym q)) in o ∙ go (below t) (omega (arith, x.many)) ∙ sym (x.fault n)
  where
    go : (f : Forest) → length (names f) ≡ 0 → cond (allowed m c []) None (Some n) ≡ cond (allowed m c (names f)) (fault_among m c f (n + 1)) (Some n)
    go empty l = refl
    go (child j u h) l = absurd (omega arith)

-- Behind it are the others.
pub alone : {e : Entry} {es more : List Entry} {t : Tree} → Heads e es t more → e.children ≡ 0 → es ≡ more
alone {e} {es} {more} {t} h z = go t h.is_present h.told
  where
    go : (t : Tree) → T (present t) → e ∷ es ≡ tell t e.name more → es ≡ more
    go missing p q = absurd p
    go mark p q = cc
    go (node empty) p q = cc
    go (node (child k u f)) p q = let n : e.children ≡ 1 + length (names f) = cc in absurd (omega arith)

-- The children of f are read, and more records stand behind them: of so many the names are put together, and left are the others.
pub record Going (m : Meaning) (c : Option ℕ) (count : ℕ) (f : Forest) (more : List Entry) (at i : ℕ) (own : List ℕ) (fault : Option ℕ) (rest : List (List ℕ)) : Type 0 where
  pub left : Forest
  pub named : take i own ++ names left ≡ names f
  pub told : entries_of rest ≡ tells left more
  pub formed : WellFormedAll left
  pub room : nodes_all left + i ≤ nodes_all f
  pub answers : or_else fault (fault_among m c left (count - length rest)) ≡ fault_among m c f (at + 1)

pub begun : {m : Meaning} {c : Option ℕ} {e : Entry} {rest : List (List ℕ)} {t : Tree} {more : List Entry} (count at : ℕ) (own : List ℕ) → Opened m c e (entries_of rest) t more
    → length rest < count → at ≡ count - 1 - length rest → Going m c count (below t) more at 0 own None rest
begun {m} {c} {rest = rest} {t = t} count at own o l a =
    record {
      left = below t;
      named = refl;
      told = o.told;
      formed = o.formed;
      room = omega arith;
      answers = ap (fault_among m c (below t)) (let p : count - length rest ≡ at + 1 = omega arith in p);
    }

-- A child that is to come.
pub record Ahead (m : Meaning) (c : Option ℕ) (count : ℕ) (f : Forest) (more : List Entry) (at i : ℕ) (own : List ℕ) (fault : Option ℕ) (rest : List (List ℕ)) : Type 0 where
  pub tree : Tree
  pub behind : List Entry
  pub some : 0 < length rest
  pub small : nodes tree + length (names f) ≤ nodes_all f + 1
  pub heads : (r : List ℕ) (under : List (List ℕ)) (e : Entry) → rest ≡ r ∷ under → e ≡ entry_of r → Heads e (entries_of under) tree behind
  pub next : (r : List ℕ) (under : List (List ℕ)) (e : Entry) → rest ≡ r ∷ under → e ≡ entry_of r → i < length own → length rest ≤ count
      → {d o : Option ℕ} → d ≡ class_under m c e.name → o ≡ or_else fault (fault_from m d tree (count - 1 - length under))
      → (more_rest : List (List ℕ)) → entries_of more_rest ≡ behind → Going m c count f more at (i + 1) (set own i e.name) o more_rest
  pub fewer : (more_rest : List (List ℕ)) → entries_of more_rest ≡ behind → length more_rest < length rest

pub ahead : {m : Meaning} {c : Option ℕ} {count : ℕ} {f : Forest} {more : List Entry} {at i : ℕ} {own : List ℕ} {fault : Option ℕ} {rest : List (List ℕ)}
    → Going m c count f more at i own fault rest → i < length (names f) → Ahead m c count f more at i own fault rest
ahead {m} {c} {count} {f} {more} {at} {i} {own} {fault} {rest} g l = go g.left g.named g.told g.formed g.room g.answers
  where
    go : (left : Forest) → take i own ++ names left ≡ names f → entries_of rest ≡ tells left more → WellFormedAll left → nodes_all left + i ≤ nodes_all f
        → or_else fault (fault_among m c left (count - length rest)) ≡ fault_among m c f (at + 1) → Ahead m c count f more at i own fault rest
    go empty n t s r a = absurd (omega (arith, ap length n, length-append (take i own) [], length-take i own))
    go (child k u h) n t s r a =
        let some_u = some u s.0 in
        let long : length rest ≡ nodes u + length (tells h more) = omega (arith, length_entries_of rest, ap length t, length_tell u k (tells h more)) in
        let head : (x : List ℕ) (under : List (List ℕ)) (e : Entry) → rest ≡ x ∷ under → e ≡ entry_of x → e ∷ entries_of under ≡ tell u k (tells h more) =
        λ x under e p q. ap (λ y. y ∷ entries_of under) q ∙ sym (ap entries_of p) ∙ t in
        let name : (x : List ℕ) (under : List (List ℕ)) (e : Entry) → rest ≡ x ∷ under → e ≡ entry_of x → e.name ≡ k =
        λ x under e p q. name_of u k (tells h more) e (entries_of under) s.0 (head x under e p q) in
        record {
          tree = u;
          behind = tells h more;
          some = omega arith;
          small = omega (arith, ap length n, length-append (take i own) (k ∷ names h), length-take i own, names_few h s.2, r);
          heads = λ x under e p q. record { is_present = s.0; well_formed = s.1; told = subst (λ j. e ∷ entries_of under ≡ tell u j (tells h more)) (sym (name x under e p q)) (head x under e p q) };
          next = λ x under e p q j w {d} {o} v z more_rest y.
              let here : count - 1 - length under ≡ count - length rest = omega (arith, ap length p) in
              let there : count - length rest + nodes u ≡ count - length more_rest = omega (arith, long, length_entries_of more_rest, ap length y) in
              record {
                left = h;
                named = ap (λ l. l ++ names h) (take_more_set own i e.name j) ∙ append_assoc (take i own) (e.name ∷ []) (names h) ∙ ap (λ y. take i own ++ y ∷ names h) (name x under e p q) ∙ n;
                told = y;
                formed = s.2;
                room = omega arith;
                answers =
                    ap (λ o. or_else o (fault_among m c h (count - length more_rest))) z
                    ∙ ap (λ o. or_else (or_else fault o) (fault_among m c h (count - length more_rest))) (ap (λ d. fault_from m d u (count - 1 - length under)) (v ∙ ap (class_under m c) (name x under e p q)) ∙ ap (fault_from m (class_under m c k) u) here)
                    ∙ or_assoc fault (fault_from m (class_under m c k) u (count - length rest)) (fault_among m c h (count - length more_rest))
                    ∙ ap (λ d. or_else fault (or_else (fault_from m (class_under m c k) u (count - length rest)) (fault_among m c h d))) (sym there)
                    ∙ a;
              };
          fewer = λ more_rest y. omega (arith, long, length_entries_of more_rest, ap length y);
        }
      where
        name_of : (u : Tree) (k : ℕ) (after : List Entry) (e : Entry) (es : List Entry) → T (present u) → e ∷ es ≡ tell u k after → e.name ≡ k
        name_of missing k after e es p q = absurd p
        name_of mark k after e es p q = cc
        name_of (node f) k after e es p q = cc

-- The record of the last child is read, and it and all below it are still to be tested.
pub record Last (m : Meaning) (c : Option ℕ) (count : ℕ) (f : Forest) (more : List Entry) (at i : ℕ) (own : List ℕ) (fault : Option ℕ) (rest : List (List ℕ)) (under : Option ℕ) (e : Entry) : Type 0 where
  pub tree : Tree
  pub behind : List Entry
  pub some : 1 ≤ i
  pub all : length own ≤ i
  pub small : nodes tree + length (names f) ≤ nodes_all f + 1
  pub heads : Heads e (entries_of rest) tree behind
  pub next : {o : Option ℕ} → o ≡ or_else fault (fault_from m under tree (count - 1 - length rest)) → (more_rest : List (List ℕ)) → entries_of more_rest ≡ behind → Going m c count f more at i own o more_rest

-- What is known after so many children: the last one may be set aside.
abbrev pub Stage : Meaning → Option ℕ → ℕ → Forest → List Entry → ℕ → ℕ → List ℕ → Option ℕ → List (List ℕ) → Option (Option ℕ × Entry) → Type 0
Stage m c count f more at i own fault rest None = Going m c count f more at i own fault rest
Stage m c count f more at i own fault rest (Some p) = Last m c count f more at i own fault rest p.0 p.1

-- While there is a child to come, none is set aside.
pub going_on : (m : Meaning) (c : Option ℕ) (count : ℕ) (f : Forest) (more : List Entry) (at i : ℕ) (own : List ℕ) (fault : Option ℕ) (rest : List (List ℕ)) (last : Option (Option ℕ × Entry))
    → Stage m c count f more at i own fault rest last → i < length own → Going m c count f more at i own fault rest
going_on m c count f more at i own fault rest None s l = s
going_on m c count f more at i own fault rest (Some p) s l = absurd (let a = s.all in omega arith)

pub stays_on : (m : Meaning) (c : Option ℕ) (count : ℕ) (f : Forest) (more : List Entry) (at i : ℕ) (own next_own : List ℕ) (fault next_fault : Option ℕ) (rest next_rest : List (List ℕ)) (last : Option (Option ℕ × Entry))
    → Stage m c count f more at i own fault rest last → i < length own → Going m c count f more at (i + 1) next_own next_fault next_rest → Stage m c count f more at (i + 1) next_own next_fault next_rest last
stays_on m c count f more at i own next_own fault next_fault rest next_rest None s l g = g
stays_on m c count f more at i own next_own fault next_fault rest next_rest (Some p) s l g = absurd (let a = s.all in omega arith)

pub set_aside : {m : Meaning} {c : Option ℕ} {count : ℕ} {f : Forest} {more : List Entry} {at i : ℕ} {own : List ℕ} {fault : Option ℕ} {rest : List (List ℕ)}
    → Ahead m c count f more at i own fault rest → (r : List ℕ) (under : List (List ℕ)) (e : Entry) → rest ≡ r ∷ under → e ≡ entry_of r → i + 1 ≡ length own → length rest ≤ count
    → {d : Option ℕ} → d ≡ class_under m c e.name → Last m c count f more at (i + 1) (set own i e.name) fault under d e
set_aside {i = i} {own = own} a r under e p q l n v =
    record {
      tree = a.tree;
      behind = a.behind;
      some = omega arith;
      all = omega (arith, length-set own i e.name);
      small = a.small;
      heads = a.heads r under e p q;
      next = λ o more_rest y. a.next r under e p q (omega arith) n v o more_rest y;
    }

-- A turn of the loop that sets the last child aside.
pub turn_last : (m : Meaning) (c : Option ℕ) (count : ℕ) (f : Forest) (more : List Entry) (at i : ℕ) (own : List ℕ) (fault : Option ℕ) (rest : List (List ℕ)) (last : Option (Option ℕ × Entry))
    → Stage m c count f more at i own fault rest last → length own ≡ length (names f) → i + 1 ≡ length own → length rest ≤ count
    → {r : List ℕ} {under : List (List ℕ)} {e : Entry} {d : Option ℕ} → rest ≡ r ∷ under → e ≡ entry_of r → d ≡ class_under m c e.name
    → {next_fault : Option ℕ} {next_rest : List (List ℕ)} {next_last : Option (Option ℕ × Entry)} → next_fault ≡ fault → next_rest ≡ under → next_last ≡ Some (d, e)
    → Stage m c count f more at (i + 1) (set own i e.name) next_fault next_rest next_last
turn_last m c count f more at i own fault rest last s n l b {r} {under} {e} {d} p q v {next_fault} {next_rest} {next_last} x y z =
    let a = ahead (going_on m c count f more at i own fault rest last s (omega arith)) (omega arith) in
    subst (Stage m c count f more at (i + 1) (set own i e.name) next_fault next_rest) (sym z)
    (subst (λ k. Last m c count f more at (i + 1) (set own i e.name) k next_rest d e) (sym x)
    (subst (λ k. Last m c count f more at (i + 1) (set own i e.name) fault k d e) (sym y) (set_aside a r under e p q l b v)))

-- A turn that tests a child, which is not the last.
pub turn_on : (m : Meaning) (c : Option ℕ) (count : ℕ) (f : Forest) (more : List Entry) (at i : ℕ) (own : List ℕ) (fault : Option ℕ) (rest : List (List ℕ)) (last : Option (Option ℕ × Entry))
    → Stage m c count f more at i own fault rest last → length own ≡ length (names f) → i < length own → length rest ≤ count
    → {r : List ℕ} {under : List (List ℕ)} {e : Entry} {d : Option ℕ} → rest ≡ r ∷ under → e ≡ entry_of r → d ≡ class_under m c e.name
    → {o : Option ℕ} {more_rest : List (List ℕ)}
    → ((t : Tree) (behind : List Entry) → Heads e (entries_of under) t behind → (o ≡ or_else fault (fault_from m d t (count - 1 - length under))) × (entries_of more_rest ≡ behind))
    → {next_fault : Option ℕ} {next_rest : List (List ℕ)} {next_last : Option (Option ℕ × Entry)} → next_fault ≡ o → next_rest ≡ more_rest → next_last ≡ last
    → Stage m c count f more at (i + 1) (set own i e.name) next_fault next_rest next_last × (length next_rest < length rest)
turn_on m c count f more at i own fault rest last s n l b {r} {under} {e} {d} p q v {o} {more_rest} tested {next_fault} {next_rest} {next_last} x y z =
    let a = ahead (going_on m c count f more at i own fault rest last s l) (omega arith) in
    let found = tested a.tree a.behind (a.heads r under e p q) in
    let g = a.next r under e p q l b v found.0 more_rest found.1 in (
      subst (Stage m c count f more at (i + 1) (set own i e.name) next_fault next_rest) (sym z)
          (stays_on m c count f more at i own (set own i e.name) fault next_fault rest next_rest last s l
          (subst (λ k. Going m c count f more at (i + 1) (set own i e.name) k next_rest) (sym x)
          (subst (λ k. Going m c count f more at (i + 1) (set own i e.name) o k) (sym y) g))),
      omega (arith, ap length y, a.fewer more_rest found.1),
    )

-- All children were read.
pub record Ended (m : Meaning) (c : Option ℕ) (f : Forest) (more : List Entry) (at : ℕ) (own : List ℕ) (fault : Option ℕ) (rest : List (List ℕ)) : Type 0 where
  pub own_is : own ≡ names f
  pub fault_is : fault ≡ fault_among m c f (at + 1)
  pub more_is : entries_of rest ≡ more

pub ended : {m : Meaning} {c : Option ℕ} {count : ℕ} {f : Forest} {more : List Entry} {at i : ℕ} {own : List ℕ} {fault : Option ℕ} {rest : List (List ℕ)}
    → Going m c count f more at i own fault rest → length own ≡ length (names f) → length own ≤ i → Ended m c f more at own fault rest
ended {m} {c} {count} {f} {more} {at} {i} {own} {fault} {rest} g e l = go g.left g.named g.told g.answers
  where
    all : take i own ≡ own
    all = take_all i own l

    go : (left : Forest) → take i own ++ names left ≡ names f → entries_of rest ≡ tells left more
        → or_else fault (fault_among m c left (count - length rest)) ≡ fault_among m c f (at + 1) → Ended m c f more at own fault rest
    go empty n t a = record { own_is = sym all ∙ sym (append-nil (take i own)) ∙ n; fault_is = sym (or_none fault) ∙ a; more_is = t }
    go (child k u h) n t a = absurd (omega (arith, ap length n, length-append (take i own) (k ∷ names h), ap length all))

-- What is found of a node: itself, or what was found below it.
first_of : (b : Bool) (fault o : Option ℕ) (n : ℕ) → or_else (cond b fault (Some n)) o ≡ cond b (or_else fault o) (Some n)
first_of true fault o n = refl
first_of false fault o n = refl

pub answered : {m : Meaning} {c : Option ℕ} {e : Entry} {es more : List Entry} {t : Tree} {at : ℕ} {own : List ℕ} {fault : Option ℕ} {rest : List (List ℕ)}
    → Opened m c e es t more → Ended m c (below t) more at own fault rest → cond (allowed m c own) fault (Some at) ≡ fault_from m c t at
answered {m} {c} {t = t} {at = at} {own = own} {fault = fault} o x =
    ap (λ k. cond (allowed m c k) fault (Some at)) x.own_is ∙ ap (λ k. cond (allowed m c (names (below t))) k (Some at)) x.fault_is ∙ sym (o.fault at)

-- The last child and what is below it are tested at the end.
pub closed : {m : Meaning} {c : Option ℕ} {e : Entry} {es more : List Entry} {t : Tree} {count at i : ℕ} {own : List ℕ} {fault : Option ℕ} {rest : List (List ℕ)} {under : Option ℕ} {child : Entry} {found here result : Option ℕ} (before : Option ℕ)
    → Opened m c e es t more → (l : Last m c count (below t) more at i own fault rest under child) → length own ≡ length (names (below t))
    → here ≡ cond (allowed m c own) fault (Some at) → found ≡ option_or before here → result ≡ or_else found (fault_from m under l.tree (count - 1 - length rest))
    → (more_rest : List (List ℕ)) → entries_of more_rest ≡ l.behind → (result ≡ or_else before (fault_from m c t at)) × (entries_of more_rest ≡ more)
closed {m} {c} {count = count} {at = at} {own = own} {fault = fault} {rest = rest} {under = under} {here = here} before o l n h w r more_rest y =
    let below_last = fault_from m under l.tree (count - 1 - length rest) in
    let x = ended (l.next {o = or_else fault below_last} refl more_rest y) n l.all in (
      r
          ∙ ap (λ k. or_else k below_last) (w ∙ or_is before here)
          ∙ or_assoc before here below_last
          ∙ ap (or_else before) (ap (λ k. or_else k below_last) h ∙ first_of (allowed m c own) fault below_last at ∙ answered o x),
      x.more_is,
    )
