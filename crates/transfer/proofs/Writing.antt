-- The records of nodes, written one behind the other.
use Rattle.std.proofs.Common.{◌≡◌, ℕ, suc, ◌+◌, ◌*◌, ◌<◌, ◌≤◌, List, [], ◌∷◌, ◌++◌, length, take, drop, Ok, Err, sym, refl, ap, ◌∙◌, append_assoc, append-nil, arith, length-append, drop-drop}
use Rattle.std.proofs.lemmas.List.{take_at, drop_at}
use Rattle.std.proofs.lemmas.Bool.{le-leb, lt-leb, cond-true, cond-false}
use Rattle.model.specs.Trees.{Tree, missing, mark, node, Forest, empty, child, nodes}
use Rattle.refusals.specs.declared.Reason.TheVariants.{Output}
use Rattle.refusals.specs.declared.Whose.TheVariants.{Nobody}
use Rattle.refusals.specs.Numbers.{refused}
use Rattle.records.specs.declared.Entry.{Entry}
use Rattle.records.specs.declared.TreeKind.{TreeKind}
use Rattle.records.specs.Bytes.{entry, put_entry, put_all, tree_code, version}
use Rattle.records.specs.Writing.{tell, tells, put_tail, written}
use Rattle.records.proofs.Bytes.{length_put}
use Rattle.records.proofs.Laws.{length_tell}
use Rattle.stored.specs.Nodes.{every, every_of}
use Rattle.stored.proofs.Own.{length_every}
use Rattle.transfer.specs.Moves.{record_of}
use Rattle.refusals.specs.Output.{told, left}

-- The record of every node is what a tree tells.
abbrev pub records : List (ℕ × Tree) → List Entry
records [] = []
records (e ∷ es) = record_of e.0 e.1 ∷ records es

mutual
  records_every : (n : ℕ) (t : Tree) (rest : List (ℕ × Tree)) → records (every n t rest) ≡ tell t n (records rest)
  records_every n missing rest = refl
  records_every n mark rest = refl
  records_every n (node f) rest = ap (λ l. record_of n (node f) ∷ l) (records_every_of f rest)

  records_every_of : (f : Forest) (rest : List (ℕ × Tree)) → records (every_of f rest) ≡ tells f (records rest)
  records_every_of empty rest = refl
  records_every_of (child n t f) rest = records_every n t (every_of f rest) ∙ ap (tell t n) (records_every_of f rest)

-- Of the records of some nodes, i are written, and those of the nodes that are left are still to come.
pub record Wrote (all : List (ℕ × Tree)) (i : ℕ) (left : List (ℕ × Tree)) (old out : List ℕ) : Type 0 where
  pub done : List (ℕ × Tree)
  pub parts : all ≡ done ++ left
  pub number : length done ≡ i
  pub bytes : out ≡ put_all (records done) (drop (8 * i) old)

put_append : (es : List Entry) (a b : List ℕ) → put_all es (a ++ b) ≡ put_all es a ++ b
put_append [] a b = refl
put_append (e ∷ es) a b = ap (put_entry e) (put_append es a b)

-- How many bytes the file of a tree has.
length_written : (t : Tree) (k : TreeKind) → length (written t k) ≡ 8 * nodes t + 8
length_written t k = omega (arith, length_put (tell t 0 []) (put_tail (nodes t) k), length_tell t 0 [])

-- One record more.
records_more : (es : List (ℕ × Tree)) (e : ℕ × Tree) (rest : List ℕ)
    → put_all (records (es ++ e ∷ [])) rest ≡ put_all (records es) (put_entry (record_of e.0 e.1) rest)
records_more [] e rest = refl
records_more (x ∷ es) e rest = ap (put_entry (record_of x.0 x.1)) (records_more es e rest)

length_records : (es : List (ℕ × Tree)) → length (records es) ≡ length es
length_records [] = refl
length_records (e ∷ es) = ap suc (length_records es)

-- Bytes behind so many records, written over.
record_put : (es : List Entry) (i : ℕ) (old out : List ℕ) (e : Entry) → length es ≡ i → out ≡ put_all es (drop (8 * i) old)
    → take (8 * i) out ++ put_entry e (drop (8 * (i + 1)) out) ≡ put_all es (put_entry e (drop (8 * (i + 1)) old))
record_put es i old out e l b =
    let own = put_all es [] in
    let long : length own ≡ 8 * i = omega (arith, length_put es []) in
    let parts : out ≡ own ++ drop (8 * i) old = b ∙ put_append es [] (drop (8 * i) old) in
    let more : 8 * (i + 1) ≡ 8 * i + 8 = omega arith in
    let front : take (8 * i) out ≡ own = ap (take (8 * i)) parts ∙ take_at own (drop (8 * i) old) (8 * i) long in
    let back : drop (8 * (i + 1)) out ≡ drop (8 * (i + 1)) old =
    ap (λ k. drop k out) more
    ∙ sym (drop-drop 8 (8 * i) out)
    ∙ ap (λ l. drop 8 (drop (8 * i) l)) parts
    ∙ ap (drop 8) (drop_at own (drop (8 * i) old) (8 * i) long)
    ∙ drop-drop 8 (8 * i) old
    ∙ ap (λ k. drop k old) (sym more) in
    ap (λ l. l ++ put_entry e (drop (8 * (i + 1)) out)) front
    ∙ ap (λ l. own ++ put_entry e l) back
    ∙ sym (put_append es [] (put_entry e (drop (8 * (i + 1)) old)))

pub wrote_more : {all rest left : List (ℕ × Tree)} {i : ℕ} {old out : List ℕ} (e : ℕ × Tree) (x : Entry) (k j : ℕ) (new : List ℕ)
    → Wrote all i rest old out → rest ≡ e ∷ left → k ≡ i → j ≡ i + 1 → x ≡ record_of e.0 e.1
    → new ≡ take (8 * k) out ++ put_entry x (drop (8 * (k + 1)) out) → Wrote all j left old new
wrote_more {all} {rest} {left} {i} {old} {out} e x k j new w r p n q h =
    record {
      done = w.done ++ e ∷ [];
      parts = w.parts ∙ ap (λ l. w.done ++ l) r ∙ sym (append_assoc w.done (e ∷ []) left);
      number = length-append w.done (e ∷ []) ∙ omega (arith, w.number);
      bytes =
          h
          ∙ ap (λ m. take (8 * m) out ++ put_entry x (drop (8 * (m + 1)) out)) p
          ∙ record_put (records w.done) i old out x (length_records w.done ∙ w.number) w.bytes
          ∙ ap (λ m. put_all (records w.done) (put_entry x (drop (8 * m) old))) (sym n)
          ∙ ap (λ y. put_all (records w.done) (put_entry y (drop (8 * j) old))) q
          ∙ sym (records_more w.done e (drop (8 * j) old));
    }

-- Where a record is still to come, there is room for it.
pub wrote_room : {all rest left : List (ℕ × Tree)} {i : ℕ} {old out : List ℕ} {e : ℕ × Tree} → Wrote all i rest old out → rest ≡ e ∷ left
    → i + 1 ≤ length all
wrote_room {left = left} {e = e} w r =
    omega (arith, w.number, ap length w.parts, length-append w.done (e ∷ left), ap (λ l. length (w.done ++ l)) r)

pub wrote_all : (t : Tree) {rest : List (ℕ × Tree)} {i : ℕ} {old out : List ℕ} → Wrote (every 0 t []) i rest old out → rest ≡ []
    → out ≡ put_all (tell t 0 []) (drop (8 * nodes t) old)
wrote_all t {rest} {i} {old} {out} w r =
    let same : every 0 t [] ≡ w.done = w.parts ∙ ap (λ l. w.done ++ l) r ∙ append-nil w.done in
    let long : i ≡ nodes t = omega (arith, w.number, ap length same, length_every 0 t []) in
    w.bytes
    ∙ ap (λ es. put_all (records es) (drop (8 * i) old)) (sym same)
    ∙ ap (λ es. put_all es (drop (8 * i) old)) (records_every 0 t [])
    ∙ ap (λ k. put_all (tell t 0 []) (drop (8 * k) old)) long

pub size_of : (t : Tree) (k : TreeKind) {n : ℕ} → n ≡ nodes t → length (written t k) ≡ 8 * n + 8
size_of t k e = length_written t k ∙ ap (λ m. 8 * m + 8) (sym e)

-- The records first, and then the trailer.
pub file_written : (t : Tree) (w : TreeKind) (n : ℕ) (e : Entry) (old mid new : List ℕ) → n ≡ nodes t → e ≡ entry (8 * n + 8) n (tree_code w) version
    → mid ≡ put_all (tell t 0 []) (drop (8 * nodes t) old) → new ≡ take (8 * n) mid ++ put_entry e (drop (8 * (n + 1)) mid)
    → new ≡ written t w ++ drop (length (written t w)) old
file_written t w n e old mid new c q a b =
    let own = tell t 0 [] in
    let p : 8 * (n + 1) ≡ length (written t w) = omega (arith, length_written t w) in
    b
    ∙ record_put own n old mid e (omega (arith, length_tell t 0 [])) (a ∙ ap (λ k. put_all own (drop (8 * k) old)) (sym c))
    ∙ ap (λ y. put_all own (put_entry y (drop (8 * (n + 1)) old))) q
    ∙ ap (λ k. put_all own (put_entry (entry (8 * n + 8) n (tree_code w) version) (drop k old))) p
    ∙ ap (λ k. put_all own (put_entry (entry (8 * k + 8) k (tree_code w) version) (drop (length (written t w)) old))) c
    ∙ put_append own (put_tail (nodes t) w) (drop (length (written t w)) old)

-- What is answered and left, where the bytes fit and where they do not.
module _ (bs old : List ℕ) (size : ℕ) (is : length bs ≡ size) where
  pub told_fits : size ≤ length old → Ok size ≡ told bs old
  told_fits l = ap Ok (sym is) ∙ sym (cond-true _ _ _ (le-leb (length bs) (length old) (omega arith)))

  pub left_fits : size ≤ length old → (new : List ℕ) → new ≡ bs ++ drop (length bs) old → new ≡ left bs old
  left_fits l new e = e ∙ sym (cond-true _ _ _ (le-leb (length bs) (length old) (omega arith)))

  pub told_short : length old < size → Err (refused Output Nobody size) ≡ told bs old
  told_short l = ap (λ n. Err (refused Output Nobody n)) (sym is) ∙ sym (cond-false _ _ _ (lt-leb (length bs) (length old) (omega arith)))

  pub left_short : length old < size → old ≡ left bs old
  left_short l = sym (cond-false _ _ _ (lt-leb (length bs) (length old) (omega arith)))
