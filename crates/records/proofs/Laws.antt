-- What is read is what was written.
use Rattle.std.proofs.Common.{◌≡◌, ℕ, zero, suc, ◌+◌, ◌-◌, ◌≤◌, Bool, true, false, cond, ◌&&◌, ◌||◌, eqb, List, [], ◌∷◌, length, Ok, Err, Result, sym, refl, ap, ◌∙◌, subst, arith}
use Rattle.std.proofs.lemmas.Bool.{eqb-true, le-ltb}
use Rattle.records.specs.declared.Entry.{Entry}
use Rattle.records.specs.declared.TreeKind.{TreeKind}
use Rattle.records.specs.declared.Wanted.{Wanted}
use Rattle.records.specs.declared.Elder.{Elder}
use Rattle.records.specs.declared.Elder.TheVariants.{Root, First, After}
use Rattle.refusals.specs.declared.Refusal.{Refusal}
use Rattle.refusals.specs.declared.Reason.TheVariants.{Short, Trailer, Count}
use Rattle.model.specs.Trees.{Tree, missing, mark, node, Forest, empty, child, names, nodes, nodes_all}
use Rattle.records.specs.Bytes.{entry}
use Rattle.records.specs.Reading.{no, then, named, may_mark, may_miss, plain, right, planted, Grown, grown, read, closed, whole, says, sealed, tail_at, records_of}
use Rattle.records.specs.Writing.{tell, tells}

-- What holds of a result, if present is one.
abbrev pub Holds : {X : Type 0} → Result X Refusal → (X → Type 0) → Type 0
Holds (Ok x) P = P x
Holds (Err e) P = Unit {0}

pub then_holds : {X Y : Type 0} (r : Result X Refusal) (f : X → Result Y Refusal) (P : X → Type 0) (Q : Y → Type 0) → Holds r P → ((x : X) → P x → Holds (f x) Q)
    → Holds (then r f) Q
then_holds (Ok x) f P Q h k = k x h
then_holds (Err e) f P Q h k = tt

pub cond_holds : {X : Type 0} (b : Bool) (r s : Result X Refusal) (Q : X → Type 0) → (b ≡ true → Holds r Q) → Holds s Q → Holds (cond b r s) Q
cond_holds true r s Q h k = h refl
cond_holds false r s Q h k = k

-- Trees that a file can hold: names ascend, nothing is missing, marks where they may stand, and levels enough.
abbrev mutual
  pub Grows : TreeKind → ℕ → Tree → Type 0
  Grows w room missing = ⊥
  Grows w room mark = may_mark w ≡ true
  Grows w room (node f) = Rises w room First f

  pub Rises : TreeKind → ℕ → Elder → Forest → Type 0
  Rises w room el empty = Unit {0}
  Rises w zero el (child n t f) = ⊥
  Rises w (suc room) el (child n t f) = (named el n ≡ true) × Grows w room t × Rises w (suc room) (After n) f

-- What was taken from the records.
pub record Took (w : TreeKind) (room k : ℕ) (el : Elder) (es : List Entry) (g : Grown) : Type 0 where
  pub told : es ≡ tells g.row g.rest
  pub many : length (names g.row) ≡ k
  pub good : Rises w room el g.row

and_left : (a b : Bool) → (a && b) ≡ true → a ≡ true
and_left true b h = refl
and_left false b h = h

and_right : (a b : Bool) → (a && b) ≡ true → b ≡ true
and_right true b h = h
and_right false b h = absurd (let z : ◌≡◌ {A = ℕ} 0 1 = cc in omega arith)

no_names : (f : Forest) → length (names f) ≡ 0 → f ≡ empty
no_names empty e = refl
no_names (child n t f) e = absurd (omega arith)

-- A record that is right, as the tree that it begins.
pub record Planted (w : TreeKind) (room : ℕ) (e : Entry) (es : List Entry) (f : Forest) (rest : List Entry) : Type 0 where
  pub told : e ∷ es ≡ tell (planted e f) e.name rest
  pub good : Grows w room (planted e f)

plant : (w : TreeKind) (room : ℕ) (e : Entry) (es : List Entry) (f : Forest) (rest : List Entry) → plain w e ≡ true → es ≡ tells f rest → length (names f) ≡ e.children → Rises w room First f
    → Planted w room e es f rest
plant w room e es f rest h t m r =
    let z : e.last ≡ 0 = eqb-true _ _ (and_left (eqb e.last 0) _ h) in
    let k = and_right (eqb e.last 0) _ h in
    go (eqb e.kind 0) (eqb e.kind 1) refl refl z k
  where
    go : (a b : Bool) → a ≡ eqb e.kind 0 → b ≡ eqb e.kind 1 → e.last ≡ 0 → (eqb e.kind 0 || (eqb e.kind 1 && (may_mark w && eqb e.children 0))) ≡ true
        → Planted w room e es f rest
    go true true p q z k = absurd (omega (arith, eqb-true e.kind 0 (sym p), eqb-true e.kind 1 (sym q)))
    go true false p q z k =
        let c0 : e.kind ≡ 0 = eqb-true _ _ (sym p) in
        let a : e ≡ entry e.name (length (names f)) 0 0 = λ i. record { name = e.name; children = sym m i; kind = c0 i; last = z i } in
        let s : planted e f ≡ node f = ap (λ b. cond b mark (node f)) (sym q) in
        record {
          told = ap (λ x. x ∷ es) a ∙ ap (λ l. entry e.name (length (names f)) 0 0 ∷ l) t ∙ ap (λ x. tell x e.name rest) (sym s);
          good = subst (λ x. Grows w room x) (sym s) r;
        }
    go false true p q z k =
        let j : (may_mark w && eqb e.children 0) ≡ true = rw (sym p, sym q) at k in
        let c0 : e.kind ≡ 1 = eqb-true _ _ (sym q) in
        let c1 : e.children ≡ 0 = eqb-true _ _ (and_right (may_mark w) _ j) in
        let a : e ≡ entry e.name 0 1 0 = λ i. record { name = e.name; children = c1 i; kind = c0 i; last = z i } in
        let s : planted e f ≡ mark = ap (λ b. cond b mark (node f)) (sym q) in
        let n : es ≡ rest = t ∙ ap (λ x. tells x rest) (no_names f (m ∙ c1)) in
        record {
          told = ap (λ x. x ∷ es) a ∙ ap (λ l. entry e.name 0 1 0 ∷ l) n ∙ ap (λ x. tell x e.name rest) (sym s);
          good = subst (λ x. Grows w room x) (sym s) (and_left (may_mark w) _ j);
        }
    go false false p q z k = absurd (let j : false ≡ true = rw (sym p, sym q) at k in let z : ◌≡◌ {A = ℕ} 0 1 = cc in omega arith)

pub taken : (w : Wanted) (end room k : ℕ) (el : Elder) (es : List Entry) → Holds (read w end room k el es) (Took w.kind room k el es)
taken w end room zero el es = record { told = refl; many = refl; good = tt }
taken w end room (suc k) el [] = tt
taken w end zero (suc k) el (e ∷ es) = tt
taken w end (suc room) (suc k) el (e ∷ es) =
    cond_holds (right w.kind el e) _ _ (Took w.kind (suc room) (suc k) el (e ∷ es))
    (λ r. then_holds (read w end room e.children First es) _ (Took w.kind room e.children First es) _ (taken w end room e.children First es)
    (λ g a. then_holds (read w end (suc room) k (After e.name) g.rest) _ (Took w.kind (suc room) k (After e.name) g.rest) _ (taken w end (suc room) k (After e.name) g.rest)
    (λ h b. let p = plant w.kind room e es g.row g.rest (and_left (plain w.kind e) _ r) a.told a.many a.good in
    record {
      told = p.told ∙ ap (tell (planted e g.row) e.name) b.told;
      many = ap suc b.many;
      good = (and_right (plain w.kind e) _ r, p.good, b.good);
    })))
    tt

-- A tree that is missing, or can stand in a file from its root on.
abbrev pub Sits : TreeKind → ℕ → Tree → Type 0
Sits w room missing = Unit {0}
Sits w room mark = Rises w room Root (child 0 mark empty)
Sits w room (node f) = Rises w room Root (child 0 (node f) empty)

pub record Told (w : TreeKind) (d : ℕ) (es : List Entry) (t : Tree) : Type 0 where
  pub told : es ≡ tell t 0 []
  pub good : Sits w (33 - d) t

rises_0 : (w : TreeKind) (room n : ℕ) (t : Tree) (f : Forest) → Rises w room Root (child n t f) → n ≡ 0
rises_0 w zero n t f r = absurd r
rises_0 w (suc room) n t f r = eqb-true n 0 r.0

sits : (w : TreeKind) (room n : ℕ) (t : Tree) (f : Forest) → Rises w room Root (child n t f) → Sits w room t
sits w zero n t f r = absurd r
sits w (suc room) n missing f r = absurd r.1
sits w (suc room) n mark f r = (refl, r.1, tt)
sits w (suc room) n (node g) f r = (refl, r.1, tt)

close_holds : (w : Wanted) (d end : ℕ) (es : List Entry) (g : Grown) → Took w.kind (33 - d) 1 Root es g → Holds (closed w end g) (Told w.kind d es)
close_holds w d end es g a = go g.row g.rest a.told a.many a.good
  where
    go : (f : Forest) (rest : List Entry) → es ≡ tells f rest → length (names f) ≡ 1 → Rises w.kind (33 - d) Root f → Holds (closed w end (grown f rest)) (Told w.kind d es)
    go f (e ∷ rest) t m r = tt
    go empty [] t m r = absurd (omega arith)
    go (child n u f) [] t m r =
        let z : f ≡ empty = no_names f (omega arith) in
        let n0 = rises_0 w.kind (33 - d) n u f r in
        record { told = t ∙ ap (λ x. tell u n (tells x [])) z ∙ ap (λ k. tell u k []) n0; good = sits w.kind (33 - d) n u f r }

missed : (w : Wanted) (b : Bool) (end : ℕ) → Holds (cond b (Ok missing) (Err (no w Count end))) (Told w.kind w.depth [])
missed w true end = record { told = refl; good = tt }
missed w false end = tt

pub whole_told : (w : Wanted) (end : ℕ) (es : List Entry) → Holds (whole w end es) (Told w.kind w.depth es)
whole_told w end [] = missed w (may_miss w.whose) end
whole_told w end (e ∷ es) =
    then_holds (read w end (33 - w.depth) 1 Root (e ∷ es)) (closed w end) (Took w.kind (33 - w.depth) 1 Root (e ∷ es)) (Told w.kind w.depth (e ∷ es)) (taken w end (33 - w.depth) 1 Root (e ∷ es))
    (λ g a. close_holds w w.depth end (e ∷ es) g a)

mutual
  pub length_tell : (t : Tree) (n : ℕ) (rest : List Entry) → length (tell t n rest) ≡ nodes t + length rest
  length_tell missing n rest = omega arith
  length_tell mark n rest = omega arith
  length_tell (node f) n rest = omega (arith, length_tells f rest)

  pub length_tells : (f : Forest) (rest : List Entry) → length (tells f rest) ≡ nodes_all f + length rest
  length_tells empty rest = omega arith
  length_tells (child n t f) rest = omega (arith, length_tell t n (tells f rest), length_tells f rest)

pub says_whole : (bs : List ℕ) (w : Wanted) → 8 ≤ length bs → sealed w.kind (length bs) (tail_at bs (length bs - 8)) ≡ true
    → says bs w ≡ whole w (length bs - 8) (records_of bs (length bs) (tail_at bs (length bs - 8)))
says_whole bs w l s =
    let len = length bs in
    let t = tail_at bs (len - 8) in
    ap (λ b. cond b (Err (no w Short len)) (cond (sealed w.kind len t) (whole w (len - 8) (records_of bs len t)) (Err (no w Trailer (len - 8))))) (le-ltb len 8 l)
    ∙ ap (λ b. cond b (whole w (len - 8) (records_of bs len t)) (Err (no w Trailer (len - 8)))) s
