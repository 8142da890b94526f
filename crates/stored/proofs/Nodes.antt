-- The trees of a forest from one of its nodes on.
use Rattle.std.proofs.Common.{◌≡◌, ℕ, zero, suc, ◌+◌, ◌*◌, ◌<◌, ◌≤◌, T, List, drop, sym, refl, ap, ◌∙◌, subst, arith}
use Rattle.model.specs.Trees.{Tree, missing, mark, node, Forest, empty, child, present, WellFormed, WellFormedAll, nodes, nodes_all}
use Rattle.stored.specs.Words.{emit, emits, below, Row, Begins}
use Rattle.stored.proofs.Places.{emit_view, nodes_below, nodes_some, sound_below}
use Rattle.stored.proofs.Forests.{join, sound_join, nodes_join, emits_join}

-- The trees from node number i on, of which none lies in another.
abbrev pub from : ℕ → Forest → Forest
from zero f = f
from (suc i) empty = empty
from (suc i) (child n t f) = from i (join (below t) f)

-- A whole tree as a forest, the root under the name 0.
abbrev pub alone : Tree → Forest
alone missing = empty
alone mark = child 0 mark empty
alone (node f) = child 0 (node f) empty

-- Behind the first node come its children, and then its siblings.
pub sound_open : (n : ℕ) (t : Tree) (f : Forest) → WellFormedAll (child n t f) → WellFormedAll (join (below t) f)
sound_open n t f s = sound_join (below t) f (sound_below t s.1) s.2

pub nodes_open : (t : Tree) (f : Forest) → T (present t) → suc (nodes_all (join (below t) f)) ≡ nodes t + nodes_all f
nodes_open t f p = omega (arith, nodes_join (below t) f, nodes_below t p)

pub sound_from : (i : ℕ) (f : Forest) → WellFormedAll f → WellFormedAll (from i f)
sound_from zero f s = s
sound_from (suc i) empty s = tt
sound_from (suc i) (child n t f) s = sound_from i (join (below t) f) (sound_open n t f s)

pub nodes_from : (i : ℕ) (f : Forest) → WellFormedAll f → i ≤ nodes_all f → i + nodes_all (from i f) ≡ nodes_all f
nodes_from zero f s l = omega arith
nodes_from (suc i) empty s l = absurd (omega arith)
nodes_from (suc i) (child n t f) s l =
    let a = nodes_open t f s.0 in
    let b = nodes_from i (join (below t) f) (sound_open n t f s) (omega arith) in
    omega arith

pub from_next : (i : ℕ) (f : Forest) → from (suc i) f ≡ from 1 (from i f)
from_next zero f = refl
from_next (suc i) empty = refl
from_next (suc i) (child n t f) = from_next i (join (below t) f)

words_from : (i : ℕ) (f : Forest) (rest : List ℕ) → WellFormedAll f → i ≤ nodes_all f → drop (3 * i) (emits f rest) ≡ emits (from i f) rest
words_from zero f rest s l = refl
words_from (suc i) empty rest s l = absurd (omega arith)
words_from (suc i) (child n t f) rest s l =
    let p : 3 * suc i ≡ suc (suc (suc (3 * i))) = omega arith in
    let a = nodes_open t f s.0 in
    ap (λ k. drop k (emit t n (emits f rest))) p
    ∙ ap (drop (suc (suc (suc (3 * i))))) (emit_view t n (emits f rest) s.0)
    ∙ ap (drop (3 * i)) (sym (emits_join (below t) f rest))
    ∙ words_from i (join (below t) f) rest (sound_open n t f s) (omega arith)

pub sound_alone : (t : Tree) → WellFormed t → WellFormedAll (alone t)
sound_alone missing s = tt
sound_alone mark s = (tt, tt, tt)
sound_alone (node f) s = (tt, s, tt)

pub nodes_alone : (t : Tree) → nodes_all (alone t) ≡ nodes t
nodes_alone missing = refl
nodes_alone mark = omega arith
nodes_alone (node f) = omega arith

pub emit_alone : (t : Tree) (rest : List ℕ) → emit t 0 rest ≡ emits (alone t) rest
emit_alone missing rest = refl
emit_alone mark rest = refl
emit_alone (node f) rest = refl

-- The node number j of a tree, with all below it, and the trees behind it.
pub record Nth (t : Tree) (j : ℕ) : Type 0 where
  pub name : ℕ
  pub tree : Tree
  pub more : Forest
  pub sound : WellFormedAll (child name tree more)
  pub is : from j (alone t) ≡ child name tree more
  pub next : from (suc j) (alone t) ≡ join (below tree) more
  pub few : nodes tree ≤ nodes t

pub nth : (t : Tree) (j : ℕ) → WellFormed t → j < nodes t → Nth t j
nth t j w l = go (from j (alone t)) refl
  where
    s : WellFormedAll (alone t)
    s = sound_alone t w

    all : j + nodes_all (from j (alone t)) ≡ nodes t
    all = nodes_from j (alone t) s (omega (arith, nodes_alone t)) ∙ nodes_alone t

    go : (g : Forest) → from j (alone t) ≡ g → Nth t j
    go empty e = absurd (omega (arith, all, ap nodes_all e))
    go (child n u g) e =
        record {
          name = n;
          tree = u;
          more = g;
          sound = subst WellFormedAll e (sound_from j (alone t) s);
          is = e;
          next = from_next j (alone t) ∙ ap (from 1) e;
          few = omega (arith, all, ap nodes_all e);
        }

-- Behind the last node nothing is left.
pub none_left : (t : Tree) (n : ℕ) → WellFormed t → n ≡ nodes t → from n (alone t) ≡ empty
none_left t n w e = go (from n (alone t)) refl
  where
    s : WellFormedAll (alone t)
    s = sound_alone t w

    go : (g : Forest) → from n (alone t) ≡ g → g ≡ empty
    go empty q = refl
    go (child m u g) q =
        let r = subst WellFormedAll q (sound_from n (alone t) s) in
        absurd (omega (arith, nodes_alone t, nodes_from n (alone t) s (omega (arith, nodes_alone t)), ap nodes_all q, nodes_some u r.0))

-- The trees from a node on stand in words from that node on.
pub row_from : {ws : List ℕ} {t : Tree} (b : Begins ws t) (j : ℕ) → j ≤ nodes t → Row ws j (from j (alone t)) b.rest
row_from {ws} {t} b j l =
    let s = sound_alone t b.well_formed in
    record {
      well_formed = sound_from j (alone t) s;
      words =
          ap (drop (3 * j)) (b.words ∙ emit_alone t b.rest) ∙ words_from j (alone t) b.rest s (omega (arith, nodes_alone t));
    }
