-- What the words of a stored tree tell.
use Rattle.std.proofs.Common.{◌≡◌, ℕ, suc, ◌+◌, ◌*◌, ◌≤◌, T, List, ◌∷◌, length, get_or, drop, sym, refl, ap, ◌∙◌, arith, length-drop, get_or-drop, drop-drop}
use Rattle.model.specs.Trees.{Tree, missing, mark, node, Forest, empty, child, present, WellFormed, WellFormedAll, nodes, nodes_all}
use Rattle.stored.specs.Words.{tree_word, mark_word, emit, emits, below, Stored, Stands, Row, Begins}

-- Three words at a place of a list.
pub record Three (xs : List ℕ) (i a b c : ℕ) (rest : List ℕ) : Type 0 where
  pub first : get_or xs i 0 ≡ a
  pub second : get_or xs (i + 1) 0 ≡ b
  pub third : get_or xs (i + 2) 0 ≡ c
  pub room : i + 3 ≤ length xs
  pub after : drop (i + 3) xs ≡ rest

pub three : (xs : List ℕ) (i a b c : ℕ) (rest : List ℕ) → drop i xs ≡ a ∷ b ∷ c ∷ rest → Three xs i a b c rest
three xs i a b c rest e =
    record {
      first = ap (λ k. get_or xs k 0) (omega arith) ∙ sym (get_or-drop i xs 0 0) ∙ ap (λ l. get_or l 0 0) e;
      second = sym (get_or-drop i xs 1 0) ∙ ap (λ l. get_or l 1 0) e;
      third = sym (get_or-drop i xs 2 0) ∙ ap (λ l. get_or l 2 0) e;
      room = omega (arith, sym (length-drop i xs) ∙ ap length e);
      after = sym (drop-drop 3 i xs) ∙ ap (drop 3) e;
    }

-- The third word of a node.
abbrev pub kind : Tree → ℕ
kind missing = tree_word
kind mark = mark_word
kind (node f) = tree_word

-- The words of a tree begin with its name, its number of nodes and its kind.
pub emit_view : (t : Tree) (n : ℕ) (rest : List ℕ) → T (present t) → emit t n rest ≡ n ∷ nodes t ∷ kind t ∷ emits (below t) rest
emit_view missing n rest p = absurd p
emit_view mark n rest p = refl
emit_view (node f) n rest p = refl

-- A tree that is present has a node, and one more than its children have.
pub nodes_below : (t : Tree) → T (present t) → 1 + nodes_all (below t) ≡ nodes t
nodes_below missing p = absurd p
nodes_below mark p = refl
nodes_below (node f) p = refl

pub nodes_some : (t : Tree) → T (present t) → 1 ≤ nodes t
nodes_some t p = omega (arith, nodes_below t p)

pub sound_below : (t : Tree) → WellFormed t → WellFormedAll (below t)
sound_below missing h = tt
sound_below mark h = tt
sound_below (node f) h = h.1

-- How many words a tree and a forest have.
mutual
  pub length_emit : (t : Tree) (n : ℕ) (rest : List ℕ) → length (emit t n rest) ≡ 3 * nodes t + length rest
  length_emit missing n rest = omega arith
  length_emit mark n rest = omega arith
  length_emit (node f) n rest = omega (arith, length_emits f rest)

  pub length_emits : (f : Forest) (rest : List ℕ) → length (emits f rest) ≡ 3 * nodes_all f + length rest
  length_emits empty rest = omega arith
  length_emits (child n t f) rest = omega (arith, length_emit t n (emits f rest), length_emits f rest)

three_more : (k : ℕ) → 3 * (1 + k) ≡ suc (suc (suc (3 * k)))
three_more k = omega arith

apart : (a b : ℕ) → 3 * (a + b) ≡ 3 * a + 3 * b
apart a b = omega arith

-- What is left behind the words of a tree and of a forest.
mutual
  pub skip : (t : Tree) (n : ℕ) (rest : List ℕ) → drop (3 * nodes t) (emit t n rest) ≡ rest
  skip missing n rest = refl
  skip mark n rest = refl
  skip (node f) n rest = ap (λ k. drop k (emit (node f) n rest)) (three_more (nodes_all f)) ∙ skips f rest

  pub skips : (f : Forest) (rest : List ℕ) → drop (3 * nodes_all f) (emits f rest) ≡ rest
  skips empty rest = refl
  skips (child n t f) rest =
      ap (λ k. drop k (emit t n (emits f rest))) (apart (nodes t) (nodes_all f))
      ∙ sym (drop-drop (3 * nodes_all f) (3 * nodes t) (emit t n (emits f rest)))
      ∙ ap (drop (3 * nodes_all f)) (skip t n (emits f rest))
      ∙ skips f rest

-- All that a stored tree tells of the words: its own three, its children, and what is behind it.
pub record Node (ws : List ℕ) (at : ℕ) (s : Stored) : Type 0 where
  pub name_is : get_or ws (3 * at) 0 ≡ s.name
  pub size_is : get_or ws (3 * at + 1) 0 ≡ nodes s.tree
  pub kind_is : get_or ws (3 * at + 2) 0 ≡ kind s.tree
  pub room : 3 * at + 3 ≤ length ws
  pub inner : drop (3 * (at + 1)) ws ≡ emits (below s.tree) s.rest
  pub whole : 3 * (at + nodes s.tree) ≤ length ws
  pub behind : drop (3 * (at + nodes s.tree)) ws ≡ s.rest

pub node_at : {ws : List ℕ} {at : ℕ} {s : Stored} → Stands ws at s → Node ws at s
node_at {ws} {at} {s} h =
    let e = h.words in
    let w = three ws (3 * at) _ _ _ _ (e ∙ emit_view s.tree s.name s.rest s.is_present) in
    record {
      name_is = w.first;
      size_is = w.second;
      kind_is = w.third;
      room = w.room;
      inner = ap (λ k. drop k ws) (omega arith) ∙ w.after;
      whole = omega (arith, length-drop (3 * at) ws, ap length e, length_emit s.tree s.name s.rest, w.room);
      behind =
          ap (λ k. drop k ws) (apart at (nodes s.tree))
          ∙ sym (drop-drop (3 * nodes s.tree) (3 * at) ws)
          ∙ ap (drop (3 * nodes s.tree)) e
          ∙ skip s.tree s.name s.rest;
    }

-- The children of a tree stand behind its node.
pub inside : {ws : List ℕ} {at : ℕ} {s : Stored} → Stands ws at s → Row ws (at + 1) (below s.tree) s.rest
inside {s = s} h = record { well_formed = sound_below s.tree s.well_formed; words = (node_at h).inner }

-- The first tree of a row, and the row behind it.
abbrev pub head : (n : ℕ) (t : Tree) (f : Forest) (rest : List ℕ) → WellFormedAll (child n t f) → Stored
head n t f rest w = record { name = n; tree = t; rest = emits f rest; is_present = w.0; well_formed = w.1 }

pub first : {ws : List ℕ} {at n : ℕ} {t : Tree} {f : Forest} {rest : List ℕ} (h : Row ws at (child n t f) rest)
    → Stands ws at (head n t f rest h.well_formed)
first h = record { words = h.words }

pub second : {ws : List ℕ} {at n : ℕ} {t : Tree} {f : Forest} {rest : List ℕ} → Row ws at (child n t f) rest
    → Row ws (at + nodes t) f rest
second h = record { well_formed = h.well_formed.2; words = (node_at (first h)).behind }

-- A whole tree that is present stands at node number 0.
abbrev pub root : (t : Tree) (rest : List ℕ) → T (present t) → WellFormed t → Stored
root t rest p w = record { name = 0; tree = t; rest = rest; is_present = p; well_formed = w }

pub begun : {ws : List ℕ} {t : Tree} (b : Begins ws t) (p : T (present t)) → Stands ws 0 (root t b.rest p b.well_formed)
begun b p = record { words = b.words }
