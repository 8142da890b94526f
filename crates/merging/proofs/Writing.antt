-- Trees written one behind the other.
use Rattle.std.proofs.Common.{◌≡◌, ℕ, ◌+◌, ◌-◌, ◌*◌, ◌≤◌, List, [], ◌∷◌, ◌++◌, length, take, drop, set, sym, ap, ◌∙◌, subst, append_assoc, arith, length-append, length-drop, length-set, length-take, drop-drop}
use lib.Seq.{paste, take-set-lt}
use Rattle.std.proofs.lemmas.List.{take_at, take-take, drop_at, append-nil, take-append-drop, length-take-le, set-append_right}
use Rattle.std.proofs.lemmas.List.Edits.{take-paste}
use Rattle.model.specs.Trees.{Tree, missing, mark, node, Forest, nodes, nodes_all}
use Rattle.stored.specs.Words.{Stored, Stands, emit, emits}
use Rattle.stored.proofs.Places.{node_at, length_emit, length_emits}
use Rattle.stored.proofs.Unique.{emit_rest, emits_rest}
use Rattle.tables.specs.declared.Table.{Table}
use Rattle.tables.specs.declared.Table.TheVariants.{Archive, Field, Bench}
use Rattle.merging.specs.Outputs.{Grown, Opened, Listed, Listing}

pub by_table : (P : Table → Type 0) → P Archive → P Field → P Bench → (t : Table) → P t
by_table P x y z Archive = x
by_table P x y z Field = y
by_table P x y z Bench = z

-- Words pasted behind the first `at` nodes.
pub pasted : (d ws : List ℕ) (at n : ℕ) → 3 * at + 3 * n ≤ length d → 3 * n ≤ length ws
    → take (3 * (at + n)) (paste d (3 * at) ws (3 * n)) ≡ take (3 * at) d ++ take (3 * n) ws
pasted d ws at n l h =
    let e : 3 * (at + n) ≡ 3 * at + 3 * n = omega arith in
    ap (λ i. take i (paste d (3 * at) ws (3 * n))) e ∙ take-paste d (3 * at) ws (3 * n) (omega arith) h

-- One node, of three words.
pub node_pasted : (d e : List ℕ) (at x y z : ℕ) → e ≡ paste d (3 * at) (x ∷ y ∷ z ∷ []) 3 → 3 * at ≤ length d
    → take (3 * (at + 1)) e ≡ take (3 * at) d ++ x ∷ y ∷ z ∷ []
node_pasted d e at x y z p l =
    let q : 3 * (at + 1) ≡ 3 * at + 3 = omega arith in
    ap (λ i. take i e) q ∙ ap (take (3 * at + 3)) p ∙ take-paste d (3 * at) (x ∷ y ∷ z ∷ []) 3 l (omega arith)

-- The words of a stored tree alone.
pub own_words : {ws : List ℕ} {at : ℕ} {s : Stored} → Stands ws at s → take (3 * nodes s.tree) (drop (3 * at) ws) ≡ emit s.tree s.name []
own_words {s = s} h =
    ap (take (3 * nodes s.tree)) (h.words ∙ emit_rest s.tree s.name s.rest)
    ∙ take_at (emit s.tree s.name []) s.rest (3 * nodes s.tree) (length_emit s.tree s.name [] ∙ omega arith)

pub copied : {d e ws : List ℕ} {at n from : ℕ} {s : Stored} → Stands ws from s → n ≡ nodes s.tree → 3 * at + 3 * n ≤ length d → length e ≡ length d
    → e ≡ paste d (3 * at) (drop (3 * from) ws) (3 * n)
    → Grown d e at (at + n) s.name s.tree
copied {d} {e} {ws} {at} {n} {from} {s} h q l le p =
    record {
      ends = omega arith;
      words =
          ap (take (3 * (at + n))) p
          ∙ pasted d (drop (3 * from) ws) at n l (omega (arith, (node_at h).whole, length-drop (3 * from) ws))
          ∙ ap (λ k. take (3 * at) d ++ take (3 * k) (drop (3 * from) ws)) q
          ∙ ap (λ l. take (3 * at) d ++ l) (own_words h);
      room = omega arith;
    }

pub grown_none : (d : List ℕ) (at k : ℕ) → 3 * at ≤ length d → Grown d d at at k missing
grown_none d at k l = record { ends = omega arith; words = sym (append-nil (take (3 * at) d)); room = l }

pub grown_mark : (d e : List ℕ) (at to k : ℕ) → to ≡ at + 1 → take (3 * to) e ≡ take (3 * at) d ++ k ∷ 1 ∷ 1 ∷ [] → 3 * to ≤ length e → Grown d e at to k mark
grown_mark d e at to k q w l = record { ends = q; words = w; room = l }

pub grown_as : {d e : List ℕ} {at to k : ℕ} {t u : Tree} → Grown d e at to k t → t ≡ u → Grown d e at to k u
grown_as {d} {e} {at} {to} {k} g q = subst (Grown d e at to k) q g

pub grown_in : {d e d' e' : List ℕ} {at to k : ℕ} {t : Tree} → d' ≡ d → e' ≡ e → Grown d e at to k t → Grown d' e' at to k t
grown_in {d} {e} {d'} {e'} {at} {to} {k} {t} p q g =
    subst (λ x. Grown x e' at to k t) (sym p) (subst (λ y. Grown d y at to k t) (sym q) g)

-- An open node.
pub opened_long : {out : List ℕ} {at to name : ℕ} {done : Forest} → Opened out at to name done → to ≡ at + (1 + nodes_all done)
opened_long {out} {at} {to} {name} {done} w =
    omega (
      arith,
      ap length w.words,
      length-take (3 * to) out,
      length-append w.front (name ∷ 0 ∷ 0 ∷ emits done []),
      length_emits done [],
      w.at_is,
      w.room,
    )

pub opened_front : {out : List ℕ} {at to name : ℕ} {done : Forest} (w : Opened out at to name done) → take (3 * at) out ≡ w.front
opened_front {out} {at} {to} {name} {done} w =
    sym (take-take (3 * at) (3 * to) out (omega (arith, opened_long w)))
    ∙ ap (take (3 * at)) w.words
    ∙ take_at w.front (name ∷ 0 ∷ 0 ∷ emits done []) (3 * at) w.at_is

second_set : (p : List ℕ) (x y : ℕ) (ys : List ℕ) (n a : ℕ) → length p ≡ n → set (p ++ x ∷ y ∷ ys) (n + 1) a ≡ p ++ x ∷ a ∷ ys
second_set p x y ys n a e =
    let d : n + 1 - n ≡ 1 = omega arith in
    set-append_right p (x ∷ y ∷ ys) n (n + 1) a e (omega arith) ∙ ap (λ i. p ++ set (x ∷ y ∷ ys) i a) d

-- It is closed by its count.
pub closed : {out : List ℕ} {at to name : ℕ} {done : Forest} → Opened out at to name done
    → Grown out (set out (3 * at + 1) (to - at)) at to name (node done)
closed {out} {at} {to} {name} {done} w =
    let l = opened_long w in
    let v : to - at ≡ 1 + nodes_all done = omega arith in
    record {
      ends = l;
      words =
          take-set-lt (3 * to) out (3 * at + 1) (to - at) (omega arith)
          ∙ ap (λ x. set x (3 * at + 1) (to - at)) w.words
          ∙ second_set w.front name 0 (0 ∷ emits done []) (3 * at) (to - at) w.at_is
          ∙ ap (λ x. w.front ++ name ∷ x ∷ 0 ∷ emits done []) v
          ∙ ap (λ x. x ++ emit (node done) name []) (sym (opened_front w));
      room = rw length-set w.room;
    }

-- What was there stays before what is written, and a later tree may be written in its place.
pub kept : {d e : List ℕ} {at to k : ℕ} {t : Tree} → Grown d e at to k t → 3 * at ≤ length d → take (3 * at) e ≡ take (3 * at) d
kept {d} {e} {at} {to} {k} {t} g l =
    sym (take-take (3 * at) (3 * to) e (omega (arith, g.ends)))
    ∙ ap (take (3 * at)) g.words
    ∙ take_at (take (3 * at) d) (emit t k []) (3 * at) (length-take-le (3 * at) d l)

pub again : {d e f : List ℕ} {at to to' k : ℕ} {t u : Tree} → Grown d e at to k t → 3 * at ≤ length d → Grown e f at to' k u
    → Grown d f at to' k u
again {k = k} {u = u} g l h = record { ends = h.ends; words = h.words ∙ ap (λ w. w ++ emit u k []) (kept g l); room = h.room }

-- The children of a node that was just written.
pub listing : {d e : List ℕ} {at to k : ℕ} {f : Forest} → Grown d e at to k (node f) → 3 * at ≤ length d → Listed f → Listing e at to f
listing {d} {e} {at} {to} {k} {f} g l h =
    let front = take (3 * at) d in
    let q : 3 * (at + 1) ≡ 3 * at + 3 = omega arith in
    record {
      rest = drop (3 * to) e;
      words =
          ap (λ i. drop i e) q
          ∙ sym (drop-drop 3 (3 * at) e)
          ∙ ap (λ x. drop 3 (drop (3 * at) x))
          (sym (take-append-drop (3 * to) e)
          ∙ ap (λ x. x ++ drop (3 * to) e) g.words
          ∙ append_assoc front (emit (node f) k []) (drop (3 * to) e))
          ∙ ap (drop 3) (drop_at front (emit (node f) k [] ++ drop (3 * to) e) (3 * at) (length-take-le (3 * at) d l))
          ∙ sym (emits_rest f (drop (3 * to) e));
      ends = omega (arith, g.ends);
      room = g.room;
      listed = h;
    }

pub opened_in : {d e : List ℕ} {at to k : ℕ} {f : Forest} → d ≡ e → Opened e at to k f → Opened d at to k f
opened_in {at = at} {to = to} {k = k} {f = f} p w = subst (λ x. Opened x at to k f) (sym p) w

pub listing_in : {d e : List ℕ} {at to : ℕ} {f : Forest} → d ≡ e → Listing e at to f → Listing d at to f
listing_in {at = at} {to = to} {f = f} p w = subst (λ x. Listing x at to f) (sym p) w
