-- The text of a tree, written child by child.
use Rattle.std.proofs.Common.{◌≡◌, ℕ, ◌+◌, ◌*◌, ◌^◌, ◌<◌, ◌≤◌, ◌⊎◌, inl, inr, length, subst, Bool, true, false, cond, T, eqb, List, [], ◌∷◌, ◌++◌, codes, decimal, sym, refl, ap, ◌∙◌, append_assoc, append-nil, length-append, arith}
use Rattle.std.proofs.Math.Dec.{ltb→lt}
use Rattle.std.proofs.lemmas.Fmt.{length-decimal-le}
use Rattle.std.proofs.lemmas.Bool.{cases_eq, eq-eqb, ne_eqb}
use Rattle.model.specs.Trees.{Tree, missing, mark, node, Forest, empty, child, present, is_mark, WellFormed, WellFormedAll, Named, NamedAll, is_name, nodes, nodes_all, marks, depth, depth_all}
use Rattle.model.specs.Round.{outcome}
use Rattle.refusals.specs.declared.Refusal.{Refusal}
use Rattle.refusals.specs.Numbers.{number_of, layer_of, layer_number, whose_number}
use Rattle.stored.specs.Words.{below}
use Rattle.stored.specs.Decoding.{whole_tree}
use Rattle.stored.specs.Own.{OwnedWhole}
use Rattle.stored.specs.Nodes.{entries}
use Rattle.stored.proofs.Places.{nodes_some}
use Rattle.text.specs.Text.{bare, under, text, children, others, colon, placed, line, refusal_line}
use Rattle.text.specs.Report.{labelled, report}
use Rattle.text.specs.declared.output.Output.{Output}
use Rattle.text.specs.Output.{Laid}
use Rattle.text.proofs.Laying.{kept, then, being}

-- A node without children is alone and no mark.
pub bare_alone : (t : Tree) → T (present t) → WellFormed t → is_mark t ≡ false → eqb (nodes t) 1 ≡ bare t
bare_alone missing p w e = absurd p
bare_alone mark p w e = e
bare_alone (node empty) p w e = refl
bare_alone (node (child n t f)) p w e = ne_eqb (nodes (node (child n t f))) 1 (λ q. omega (arith, nodes_some t w.1.0))

pub bare_mark : (t : Tree) → is_mark t ≡ true → bare t ≡ false
bare_mark missing e = refl
bare_mark mark e = refl
bare_mark (node f) e = absurd (let z : ◌≡◌ {A = ℕ} 0 1 = cc in omega arith)

-- The children that are left, the first of all among them or not.
abbrev pub all_but_first : List (ℕ × Tree) → List ℕ
all_but_first [] = []
all_but_first (e ∷ es) = 44 ∷ (decimal e.0 ++ (under e.1 (text e.1) ++ all_but_first es))

abbrev pub row : ℕ → List (ℕ × Tree) → List ℕ
row i [] = []
row i (e ∷ es) = cond (eqb i 0) [] (44 ∷ []) ++ (decimal e.0 ++ (under e.1 (text e.1) ++ all_but_first es))

others_row : (f : Forest) → all_but_first (entries f) ≡ others f
others_row empty = refl
others_row (child n t f) = ap (λ l. 44 ∷ (decimal n ++ (under t (text t) ++ l))) (others_row f)

pub children_row : (f : Forest) → row 0 (entries f) ≡ children f
children_row empty = refl
children_row (child n t f) = ap (λ l. decimal n ++ (under t (text t) ++ l)) (others_row f)

row_behind : (i : ℕ) (es : List (ℕ × Tree)) → row (i + 1) es ≡ all_but_first es
row_behind i [] = refl
row_behind i (e ∷ es) =
    ap (λ b. cond b [] (44 ∷ []) ++ (decimal e.0 ++ (under e.1 (text e.1) ++ all_but_first es))) (ne_eqb (i + 1) 0 (λ q. omega arith))

-- Trees less deep than d.
abbrev pub Shallow : ℕ → List (ℕ × Tree) → Type 0
Shallow d [] = Unit {0}
Shallow d (e ∷ es) = (depth e.1 < d) × Shallow d es

pub shallow_all : (d : ℕ) (f : Forest) → depth_all f ≤ d → Shallow d (entries f)
shallow_all d empty l = tt
shallow_all d (child n t f) l = (omega arith, shallow_all d f (omega arith))

-- The trees below one are less deep.
pub below_shallow : (t : Tree) → Shallow (depth t) (entries (below t))
below_shallow missing = tt
below_shallow mark = tt
below_shallow (node f) = shallow_all (depth_all f) f (omega arith)

-- A writer that has written i of the children of a tree: those that are left are still to come.
pub record Going (t : Tree) (old : Output) (i : ℕ) (left : List (ℕ × Tree)) (now : Output) : Type 0 where
  pub bytes : List ℕ
  pub laid : Laid old bytes now
  pub parts : bytes ++ row i left ≡ children (below t)
  pub shallow : Shallow (depth t) left

pub going_start : {t : Tree} {old : Output} {i : ℕ} {left : List (ℕ × Tree)} {a : Output} → Laid a (123 ∷ []) old → i ≡ 0 → left ≡ entries (below t)
    → Going t old i left old
going_start {t} {old} {i} {left} l e q =
    record {
      bytes = [];
      laid = kept l;
      parts = ap (λ k. row k left) e ∙ ap (row 0) q ∙ children_row (below t);
      shallow = subst (Shallow (depth t)) (sym q) (below_shallow t);
    }

-- What stands before a name: nothing before the first.
pub comma : {a b : Output} {i : ℕ} → 0 < i → Laid a (44 ∷ []) b → Laid a (cond (eqb i 0) [] (44 ∷ [])) b
comma {i = i} p l = being (ap (λ v. cond v [] (44 ∷ [])) (sym (ne_eqb i 0 (λ e. omega arith)))) l

pub no_comma : {a b c : Output} {bs : List ℕ} {i : ℕ} → i ≤ 0 → Laid a bs b → c ≡ b → Laid b (cond (eqb i 0) [] (44 ∷ [])) c
no_comma {b = b} {i = i} p l e =
    subst (λ s. Laid b (cond (eqb i 0) [] (44 ∷ [])) s) (sym e)
    (being (ap (λ v. cond v [] (44 ∷ [])) (sym (eq-eqb i 0 (omega arith)))) (kept l))

-- What is written of a tree below the root, and of any that has a text there.
pub below_root : {a b : Output} (d : ℕ) (t : Tree) → Laid a (placed (d + 1) t) b → Laid a (under t (text t)) b
below_root d t l = being (ap (λ v. cond v (text t) (under t (text t))) (ne_eqb (d + 1) 0 (λ e. omega arith))) l

pub at_depth : {a b c : Output} (d : ℕ) (t : Tree) → (0 < d → bare t ≡ false) → Laid a (colon d) b → Laid b (text t) c → Laid a (placed d t) c
at_depth d t h p q = being (go (cases_eq d 0)) (then p q)
  where
    go : (d ≡ 0) ⊎ ¬ (d ≡ 0) → colon d ++ text t ≡ placed d t
    go (inl e) = rw (eq-eqb d 0 e)
    go (inr n) = rw (ne_eqb d 0 n, h (omega arith))

parts_more : (bs s d u r : List ℕ) → (bs ++ (s ++ (d ++ u))) ++ r ≡ bs ++ (s ++ (d ++ (u ++ r)))
parts_more bs s d u r = simp append_assoc

pub going_more : {t : Tree} {old now a b c : Output} {i k j n : ℕ} {left more : List (ℕ × Tree)} (e : ℕ × Tree) → Going t old i left now
    → left ≡ e ∷ more → k ≡ i → j ≡ i + 1 → n ≡ e.0 → Laid now (cond (eqb k 0) [] (44 ∷ [])) a → Laid a (decimal n) b
    → Laid b (under e.1 (text e.1)) c → Going t old j more c
going_more {t} {old} {now} {a} {b} {c} {i} {k} {j} {n} {left} {more} e g r p q m x y z =
    record {
      bytes = g.bytes ++ (cond (eqb k 0) [] (44 ∷ []) ++ (decimal n ++ under e.1 (text e.1)));
      laid = then g.laid (then x (then y z));
      parts =
          ap (λ l. (g.bytes ++ (cond (eqb k 0) [] (44 ∷ []) ++ (decimal n ++ under e.1 (text e.1)))) ++ l) (ap (λ l. row l more) q ∙ row_behind i more)
          ∙ parts_more g.bytes (cond (eqb k 0) [] (44 ∷ [])) (decimal n) (under e.1 (text e.1)) (all_but_first more)
          ∙ ap (λ l. g.bytes ++ (cond (eqb l 0) [] (44 ∷ []) ++ (decimal n ++ (under e.1 (text e.1) ++ all_but_first more)))) p
          ∙ ap (λ l. g.bytes ++ (cond (eqb i 0) [] (44 ∷ []) ++ (decimal l ++ (under e.1 (text e.1) ++ all_but_first more)))) m
          ∙ ap (λ l. g.bytes ++ row i l) (sym r)
          ∙ g.parts;
      shallow = (subst (Shallow (depth t)) r g.shallow).1;
    }

pub going_end : {t : Tree} {old now : Output} {i : ℕ} {left : List (ℕ × Tree)} → Going t old i left now → left ≡ [] → Laid old (children (below t)) now
going_end {i = i} g e = being (sym (append-nil g.bytes) ∙ ap (λ l. g.bytes ++ row i l) (sym e) ∙ g.parts) g.laid

-- The text of a tree that is no mark.
pub braced : {a b c d : Output} (t : Tree) → T (present t) → is_mark t ≡ false → Laid a (123 ∷ []) b → Laid b (children (below t)) c
    → Laid c (125 ∷ []) d → Laid a (text t) d
braced missing p e x y z = absurd p
braced mark p e x y z = absurd (let o : ◌≡◌ {A = ℕ} 0 1 = cc in omega arith)
braced (node f) p e x y z = then x (then y z)

-- How long a text can be.
name_short : (n : ℕ) → T (is_name n) → length (decimal n) ≤ 10
name_short n h = let l = ltb→lt n 4294967296 h in length-decimal-le 10 n (omega arith) (omega arith) (omega arith)

under_short : (b : Bool) (bs : List ℕ) → length (cond b [] (58 ∷ bs)) ≤ 1 + length bs
under_short true bs = omega arith
under_short false bs = omega arith

mutual
  text_some : (t : Tree) → T (present t) → WellFormed t → Named is_name t → length (text t) + 12 ≤ 14 * nodes t
  text_some missing p w n = absurd p
  text_some mark p w n = omega arith
  text_some (node f) p w n = omega (arith, children_short f w.1 n, length-append (children f) (125 ∷ []))

  children_short : (f : Forest) → WellFormedAll f → NamedAll is_name f → length (children f) ≤ 14 * nodes_all f
  children_short empty w n = omega arith
  children_short (child k t f) w n =
      omega (
        arith,
        name_short k n.0,
        under_short (bare t) (text t),
        text_some t w.0 w.1 n.1,
        others_short f w.2 n.2,
        length-append (decimal k) (under t (text t) ++ others f),
        length-append (under t (text t)) (others f),
      )

  others_short : (f : Forest) → WellFormedAll f → NamedAll is_name f → length (others f) ≤ 14 * nodes_all f
  others_short empty w n = omega arith
  others_short (child k t f) w n =
      omega (
        arith,
        name_short k n.0,
        under_short (bare t) (text t),
        text_some t w.0 w.1 n.1,
        others_short f w.2 n.2,
        length-append (decimal k) (under t (text t) ++ others f),
        length-append (under t (text t)) (others f),
      )

pub text_short : (t : Tree) → WellFormed t → Named is_name t → length (text t) ≤ 14 * nodes t + 1
text_short missing w n = omega arith
text_short mark w n = omega arith
text_short (node f) w n = omega (arith, text_some (node f) tt w n)

pub number_short : (n : ℕ) → n < 2 ^ 64 → length (decimal n) ≤ 20
number_short n h = length-decimal-le 20 n (omega arith) (omega arith) (omega arith)

pub line_short : (r : Refusal) → number_of r.reason < 2 ^ 64 → layer_number (layer_of r.reason) < 2 ^ 64 → whose_number r.whose < 2 ^ 64
    → r.place < 2 ^ 64 → length (line r) ≤ 200
line_short r a b c d =
    let one = codes "refused " ++ decimal (number_of r.reason) in
    let two = codes " layer " ++ decimal (layer_number (layer_of r.reason)) in
    let three = codes " whose " ++ decimal (whose_number r.whose) in
    let four = codes " place " ++ decimal r.place in
    omega (
      arith,
      number_short (number_of r.reason) a,
      number_short (layer_number (layer_of r.reason)) b,
      number_short (whose_number r.whose) c,
      number_short r.place d,
      length-append (codes "refused ") (decimal (number_of r.reason)),
      length-append (codes " layer ") (decimal (layer_number (layer_of r.reason))),
      length-append (codes " whose ") (decimal (whose_number r.whose)),
      length-append (codes " place ") (decimal r.place),
      length-append one (two ++ (three ++ four)),
      length-append two (three ++ four),
      length-append three four,
    )

pub refusal_line_short : (r : Refusal) → length (line r) ≤ 200 → length (refusal_line r) ≤ 201
refusal_line_short r l = omega (arith, length-append (line r) (codes "\n"))

labelled_short : (word bytes : List ℕ) → length (labelled word bytes) ≡ length word + length bytes + 1
labelled_short word bytes = omega (arith, length-append (word ++ bytes) (codes "\n"), length-append word bytes)

held_short : {ws : List ℕ} → OwnedWhole ws → length (text (whole_tree ws)) ≤ 57345
held_short {ws} h = omega (arith, text_short (whole_tree ws) h.well_formed h.names, h.few)

pub report_short : {xs ys zs : List ℕ} → OwnedWhole xs → OwnedWhole ys → OwnedWhole zs → marks (whole_tree xs) < 2 ^ 64
    → length (report (outcome (whole_tree xs) (whole_tree ys) (whole_tree zs))) < 2 ^ 64
report_short {xs} {ys} {zs} x y z m =
    let a = whole_tree xs in
    let b = whole_tree ys in
    let c = whole_tree zs in
    let one = labelled (codes "marks ") (decimal (marks a)) in
    let two = labelled (codes "archive ") (text a) in
    let three = labelled (codes "field ") (text b) in
    let four = labelled (codes "bench ") (text c) in
    omega (
      arith,
      number_short (marks a) m,
      held_short x,
      held_short y,
      held_short z,
      labelled_short (codes "marks ") (decimal (marks a)),
      labelled_short (codes "archive ") (text a),
      labelled_short (codes "field ") (text b),
      labelled_short (codes "bench ") (text c),
      length-append one (two ++ (three ++ four)),
      length-append two (three ++ four),
      length-append three four,
    )
