-- A walk over a tree in words, by the stack of the nodes that are open.
use Rattle.std.proofs.Common.{◌≡◌, ℕ, ◌+◌, ◌*◌, ◌<◌, ◌≤◌, true, false, cond, T, List, [], ◌∷◌, length, get_or, drop, Some, None, Option, sym, refl, ap, ◌∙◌, arith, length-drop, get_or-drop, drop-drop}
use Rattle.model.specs.Trees.{Tree, missing, mark, node, Forest, empty, child, names, present, WellFormedAll, nodes, nodes_all, marks, marks_all}
use Rattle.model.specs.Meaning.{Meaning, allowed}
use Rattle.model.specs.Faults.{or_else, fault_from, fault_among}
use Rattle.stored.specs.Words.{emits, below, Stored, Stands}
use Rattle.stored.proofs.Places.{node_at, nodes_below, nodes_some, sound_below}
use Rattle.editing.specs.Opening.{Opened}

-- Two words at a place of a list.
pub record Two (xs : List ℕ) (i a b : ℕ) (rest : List ℕ) : Type 0 where
  pub first : get_or xs i 0 ≡ a
  pub second : get_or xs (i + 1) 0 ≡ b
  pub room : i + 2 ≤ length xs
  pub after : drop (i + 2) xs ≡ rest

pub two : (xs : List ℕ) (i a b : ℕ) (rest : List ℕ) → drop i xs ≡ a ∷ b ∷ rest → Two xs i a b rest
two xs i a b rest e =
    record {
      first = ap (λ k. get_or xs k 0) (omega arith) ∙ sym (get_or-drop i xs 0 0) ∙ ap (λ l. get_or l 0 0) e;
      second = sym (get_or-drop i xs 1 0) ∙ ap (λ l. get_or l 1 0) e;
      room = omega (arith, sym (length-drop i xs) ∙ ap length e);
      after = sym (drop-drop 2 i xs) ∙ ap (drop 2) e;
    }

-- An open node: its class, and the children that are left.
pub data Frame : Type 0 where
  frame : ℕ → Forest → Frame

-- The words that are left: those of the top frame come first.
abbrev pub laid : List Frame → List ℕ → List ℕ
laid [] rest = rest
laid (frame c f ∷ fs) rest = emits f (laid fs rest)

-- The words of the stack: of each frame its class, and where its tree ends.
abbrev pub piled : List Frame → ℕ → List ℕ
piled [] at = []
piled (frame c f ∷ fs) at = c ∷ (at + nodes_all f) ∷ piled fs (at + nodes_all f)

-- The answer from here on.
abbrev pub resumed : List Frame → Meaning → ℕ → Option ℕ
resumed [] m at = None
resumed (frame c f ∷ fs) m at = or_else (fault_among m (Some c) f at) (resumed fs m (at + nodes_all f))

-- Where the walk ends.
abbrev pub finish : List Frame → ℕ → ℕ
finish [] at = at
finish (frame c f ∷ fs) at = finish fs (at + nodes_all f)

abbrev pub Sound : List Frame → Type 0
Sound [] = Unit {0}
Sound (frame c f ∷ fs) = WellFormedAll f × (marks_all f ≡ 0) × Sound fs

pub record Walk (m : Meaning) (ws rest : List ℕ) (end : ℕ) (answer : Option ℕ) (stack : List ℕ) (top at : ℕ) (frames : List Frame) : Type 0 where
  pub row : drop (3 * at) ws ≡ laid frames rest
  pub pile : drop top stack ≡ piled frames at
  pub sound : Sound frames
  pub ends : finish frames at ≡ end
  pub answers : resumed frames m at ≡ answer

pub record Walking (m : Meaning) (ws rest : List ℕ) (end : ℕ) (answer : Option ℕ) (stack : List ℕ) (top at : ℕ) : Type 0 where
  pub frames : List Frame
  pub walk : Walk m ws rest end answer stack top at frames

-- The top frame, as the code reads it.
pub record Top (m : Meaning) (ws rest : List ℕ) (end : ℕ) (answer : Option ℕ) (stack : List ℕ) (top at : ℕ) : Type 0 where
  pub class : ℕ
  pub left : Forest
  pub frames : List Frame
  pub walk : Walk m ws rest end answer stack top at (frame class left ∷ frames)
  pub words : Two stack top class (at + nodes_all left) (piled frames (at + nodes_all left))

-- The top frame has a child left.
pub record Child (m : Meaning) (ws rest : List ℕ) (end : ℕ) (answer : Option ℕ) (stack : List ℕ) (top at : ℕ) : Type 0 where
  pub class : ℕ
  pub more : Forest
  pub frames : List Frame
  pub self : Stored
  pub here : Stands ws at self
  pub rest_is : self.rest ≡ emits more (laid frames rest)
  pub walk : Walk m ws rest end answer stack top at (frame class (child self.name self.tree more) ∷ frames)
  pub class_is : get_or stack top 0 ≡ class
  pub within : at + nodes self.tree ≤ end

finish_after : (fs : List Frame) (at : ℕ) → at ≤ finish fs at
finish_after [] at = omega arith
finish_after (frame c f ∷ fs) at = omega (arith, finish_after fs (at + nodes_all f))

or_else_assoc : (x y z : Option ℕ) → or_else (or_else x y) z ≡ or_else x (or_else y z)
or_else_assoc None y z = refl
or_else_assoc (Some a) y z = refl

or_else_none : (x : Option ℕ) → or_else x None ≡ x
or_else_none None = refl
or_else_none (Some a) = refl

-- A node without marks is tested by its names, and then below.
fault_open : (m : Meaning) (c : Option ℕ) (t : Tree) (n : ℕ) → T (present t) → marks t ≡ 0
    → fault_from m c t n ≡ cond (allowed m c (names (below t))) (fault_among m c (below t) (n + 1)) (Some n)
fault_open m c missing n p e = absurd p
fault_open m c mark n p e = absurd (omega arith)
fault_open m c (node f) n p e = refl

unmarked_below : (t : Tree) → marks t ≡ 0 → marks_all (below t) ≡ 0
unmarked_below missing e = refl
unmarked_below mark e = refl
unmarked_below (node f) e = e

pub none_missing : (m : Meaning) (c : Option ℕ) (t : Tree) (n : ℕ) → nodes t ≡ 0 → fault_from m c t n ≡ None
none_missing m c missing n e = refl
none_missing m c mark n e = absurd (omega arith)
none_missing m c (node f) n e = absurd (omega arith)

-- The node that the walk comes to is not allowed.
pub root_refused : (m : Meaning) (c : Option ℕ) (t : Tree) (n : ℕ) → T (present t) → marks t ≡ 0
    → allowed m c (names (below t)) ≡ false → fault_from m c t n ≡ Some n
root_refused m c t n p e q = fault_open m c t n p e ∙ ap (λ b. cond b (fault_among m c (below t) (n + 1)) (Some n)) q

module _ {m : Meaning} {ws rest : List ℕ} {end : ℕ} {answer : Option ℕ} where
  pub top_of : {stack : List ℕ} {top at : ℕ} → Walking m ws rest end answer stack top at → top < length stack
      → Top m ws rest end answer stack top at
  top_of {stack} {top} {at} w l = go w.frames w.walk
    where
      go : (fs : List Frame) → Walk m ws rest end answer stack top at fs → Top m ws rest end answer stack top at
      go [] v = absurd (omega (arith, ap length v.pile, length-drop top stack))
      go (frame c f ∷ fs) v = record { class = c; left = f; frames = fs; walk = v; words = two _ _ _ _ _ v.pile }

  pub done : {stack : List ℕ} {top at : ℕ} → Walking m ws rest end answer stack top at → length stack ≤ top → answer ≡ None
  done {stack} {top} {at} w l = go w.frames w.walk
    where
      go : (fs : List Frame) → Walk m ws rest end answer stack top at fs → answer ≡ None
      go [] v = sym v.answers
      go (frame c f ∷ fs) v =
          let t = two stack top c (at + nodes_all f) (piled fs (at + nodes_all f)) v.pile in
          absurd (omega (arith, t.room))

  -- The top frame has no child left.
  pub closed : {stack : List ℕ} {top at : ℕ} (t : Top m ws rest end answer stack top at) → at ≡ get_or stack (top + 1) 0
      → Walking m ws rest end answer stack (top + 2) at
  closed {stack} {top} {at} t e = go t.left t.walk t.words (omega (arith, t.words.second))
    where
      go : (f : Forest) → Walk m ws rest end answer stack top at (frame t.class f ∷ t.frames)
          → Two stack top t.class (at + nodes_all f) (piled t.frames (at + nodes_all f)) → nodes_all f ≡ 0
          → Walking m ws rest end answer stack (top + 2) at
      go empty v w z =
          let p : at + 0 ≡ at = omega arith in
          record {
            frames = t.frames;
            walk = record {
              row = v.row;
              pile = rw p at w.after;
              sound = v.sound.2;
              ends = rw p at v.ends;
              answers = rw p at v.answers;
            };
          }
      go (child n u f) v w z = absurd (omega (arith, nodes_some u v.sound.0.0))

  pub child_of : {stack : List ℕ} {top at : ℕ} (t : Top m ws rest end answer stack top at) → (at ≡ get_or stack (top + 1) 0 → ⊥)
      → Child m ws rest end answer stack top at
  child_of {stack} {top} {at} t ne = go t.left t.walk t.words
    where
      go : (f : Forest) → Walk m ws rest end answer stack top at (frame t.class f ∷ t.frames)
          → Two stack top t.class (at + nodes_all f) (piled t.frames (at + nodes_all f)) → Child m ws rest end answer stack top at
      go empty v w = absurd (ne (omega (arith, w.second)))
      go (child n u f) v w =
          record {
            class = t.class;
            more = f;
            frames = t.frames;
            self = record {
              name = n;
              tree = u;
              rest = emits f (laid t.frames rest);
              is_present = v.sound.0.0;
              well_formed = v.sound.0.1;
            };
            here = record { words = v.row };
            rest_is = refl;
            walk = v;
            class_is = w.first;
            within = omega (arith, v.ends, finish_after t.frames (at + (nodes u + nodes_all f)));
          }

  -- The child that the walk comes to, and the class under its name, as the code asks for them.
  pub comes_to : {stack : List ℕ} {top at : ℕ} → Walking m ws rest end answer stack top at → top < length stack → (stop : ℕ)
      → stop ≡ get_or stack (top + 1) 0 → (at ≡ stop → ⊥) → Child m ws rest end answer stack top at
  comes_to w l stop e ne = child_of (top_of w l) (λ q. ne (q ∙ sym e))

  pub asked : {stack : List ℕ} {top at : ℕ} (c : Child m ws rest end answer stack top at) (n y : ℕ) (o : Option ℕ) → n ≡ c.self.name
      → y ≡ get_or stack top 0 → o ≡ m.under y n → m.under c.class c.self.name ≡ o
  asked c n y o p q e = sym (e ∙ ap (λ i. m.under i n) (q ∙ c.class_is) ∙ ap (m.under c.class) p)

  unmarked : {stack : List ℕ} {top at : ℕ} (c : Child m ws rest end answer stack top at) → marks c.self.tree ≡ 0
  unmarked c = omega (arith, c.walk.sound.1)

  -- The child is refused.
  pub refused : {stack : List ℕ} {top at : ℕ} (c : Child m ws rest end answer stack top at) (o : Option ℕ)
      → m.under c.class c.self.name ≡ o → allowed m o (names (below c.self.tree)) ≡ false → answer ≡ Some at
  refused {at = at} c o e n =
      let x = root_refused m o c.self.tree at c.self.is_present (unmarked c) n in
      sym c.walk.answers ∙ rw (e, x)

  -- The child is opened.
  pub opened : {stack : List ℕ} {top at : ℕ} (c : Child m ws rest end answer stack top at) (stack' : List ℕ) (top' : ℕ) (o : Option ℕ)
      → m.under c.class c.self.name ≡ o → allowed m o (names (below c.self.tree)) ≡ true
      → Opened stack stack' top top' o (at + nodes c.self.tree) → Walking m ws rest end answer stack' top' (at + 1)
  opened {stack} {top} {at} c stack' top' o e y p =
      let t = c.self.tree in
      let f = below t in
      let b = nodes_below t c.self.is_present in
      let k = p.number in
      let i : at + nodes t ≡ at + 1 + nodes_all f = omega arith in
      let j : at + (nodes t + nodes_all c.more) ≡ at + 1 + nodes_all f + nodes_all c.more = omega arith in
      let x : fault_from m o t at ≡ fault_among m (Some k) f (at + 1) =
      fault_open m o t at c.self.is_present (unmarked c) ∙ ap (λ b. cond b (fault_among m o f (at + 1)) (Some at)) y ∙ ap (λ q. fault_among m q f (at + 1)) p.class_is in
      record {
        frames = frame k f ∷ frame c.class c.more ∷ c.frames;
        walk = record {
          row = (node_at c.here).inner ∙ ap (emits f) c.rest_is;
          pile =
              p.words
              ∙ ap (λ n. k ∷ n ∷ drop top stack) i
              ∙ ap (λ ys. k ∷ (at + 1 + nodes_all f) ∷ ys) (rw j at c.walk.pile);
          sound = (
            sound_below t c.self.well_formed,
            unmarked_below t (unmarked c),
            (c.walk.sound.0.2, omega (arith, c.walk.sound.1), c.walk.sound.2),
          );
          ends = rw j at c.walk.ends;
          answers = sym (or_else_assoc (fault_among m (Some k) f (at + 1)) _ _) ∙ rw (e, x, i, j) at c.walk.answers;
        };
      }

-- The root is opened.
pub begun : (m : Meaning) {ws : List ℕ} {s : Stored} (end : ℕ) (o : Option ℕ) (stack stack' : List ℕ) (top top' : ℕ) → Stands ws 0 s → end ≡ nodes s.tree
    → marks s.tree ≡ 0
    → drop top stack ≡ [] → allowed m o (names (below s.tree)) ≡ true → Opened stack stack' top top' o (0 + nodes s.tree)
    → Walking m ws s.rest end (fault_from m o s.tree 0) stack' top' 1
begun m {ws} {s} end o stack stack' top top' h n u z y p =
    let t = s.tree in
    let f = below t in
    let b = nodes_below t s.is_present in
    let k = p.number in
    let i : 0 + nodes t ≡ 1 + nodes_all f = omega arith in
    record {
      frames = frame k f ∷ [];
      walk = record {
        row = (node_at h).inner;
        pile = p.words ∙ ap (λ n. k ∷ n ∷ drop top stack) i ∙ ap (λ ys. k ∷ (1 + nodes_all f) ∷ ys) z;
        sound = (sound_below t s.well_formed, unmarked_below t u, tt);
        ends = omega arith;
        answers =
            or_else_none (fault_among m (Some k) f 1)
            ∙ sym (fault_open m o t 0 s.is_present u ∙ ap (λ b. cond b (fault_among m o f 1) (Some 0)) y ∙ ap (λ q. fault_among m q f 1) p.class_is);
      };
    }
