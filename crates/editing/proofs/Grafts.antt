-- Words copied from tree to tree.
use Rattle.std.proofs.Common.{◌≡◌, ℕ, zero, suc, ◌+◌, ◌-◌, ◌*◌, ◌<◌, ◌≤◌, List, [], ◌∷◌, ◌++◌, length, take, drop, set, sym, refl, ap, ◌∙◌, arith, length-drop}
use lib.Seq.{paste, take-set-lt}
use Rattle.std.proofs.lemmas.List.{take_at, take-append-drop, length-take-le, set_at, set-append_right}
use Rattle.std.proofs.lemmas.List.Edits.{take-paste}
use Rattle.model.specs.Trees.{Tree, missing, mark, node, WellFormed, nodes, nodes_all, marks, depth}
use Rattle.stored.specs.Words.{tree_word, emit, emits, below, Stored, Stands, Holds}
use Rattle.stored.specs.Lookup.{smaller}
use Rattle.stored.proofs.Places.{kind, emit_view, sound_below, length_emit, length_emits}
use Rattle.stored.proofs.Lookup.{ascends_below}
use Rattle.stored.proofs.Unique.{emit_rest, emits_rest}
use Rattle.editing.specs.Splicing.{Offers}
use Rattle.editing.proofs.Siblings.{emits_split}

unmarked_kind : (t : Tree) → marks t ≡ 0 → kind t ≡ tree_word
unmarked_kind missing e = refl
unmarked_kind mark e = absurd (omega arith)
unmarked_kind (node f) e = refl

-- The words of a node without marks and of its children below a name.
pub node_words : {ws : List ℕ} {at : ℕ} {s : Stored} (k n : ℕ) → Stands ws at s → marks s.tree ≡ 0
    → n ≡ 3 + 3 * nodes_all (smaller k (below s.tree))
    → take n (drop (3 * at) ws) ≡ s.name ∷ nodes s.tree ∷ tree_word ∷ emits (smaller k (below s.tree)) []
node_words {ws} {at} {s} k n h u e =
    let t = s.tree in
    let f = below t in
    let own = s.name ∷ nodes t ∷ tree_word ∷ emits (smaller k f) [] in
    ap (take n) (h.words ∙ emit_view t s.name s.rest s.is_present
    ∙ ap (λ w. s.name ∷ nodes t ∷ w ∷ emits f s.rest) (unmarked_kind t u)
    ∙ ap (λ l. s.name ∷ nodes t ∷ tree_word ∷ l) (emits_split f k (ascends_below t s.well_formed) (sound_below t s.well_formed) s.rest
    ∙ emits_rest (smaller k f) _))
    ∙ take_at own _ n (omega (arith, length_emits (smaller k f) []))

-- Another second word, behind some words.
resize : (xs : List ℕ) (i a b y : ℕ) (ys : List ℕ) → length xs ≡ i → set (xs ++ a ∷ b ∷ ys) (i + 1) y ≡ xs ++ a ∷ y ∷ ys
resize xs i a b y ys e =
    let one : i + 1 - i ≡ 1 = omega arith in
    set-append_right xs (a ∷ b ∷ ys) i (i + 1) y e (omega arith) ∙ ap (λ k. xs ++ set (a ∷ b ∷ ys) k y) one

-- Words pasted behind the first i, of which one is then set.
pub pasted_set : (out xs : List ℕ) (i n j y m : ℕ) → i ≤ length out → n ≤ length xs → j < m → m ≡ i + n
    → take m (set (paste out i xs n) j y) ≡ set (take i out ++ take n xs) j y
pasted_set out xs i n j y m l k b e =
    take-set-lt m (paste out i xs n) j y b
    ∙ ap (λ o. set (take o (paste out i xs n)) j y) e
    ∙ ap (λ l. set l j y) (take-paste out i xs n l k)

-- The words of a node, with another count.
pub counted_anew : {ws : List ℕ} {at : ℕ} {s : Stored} (out : List ℕ) (k n y m : ℕ) → Stands ws at s → marks s.tree ≡ 0
    → n ≡ 3 + 3 * nodes_all (smaller k (below s.tree)) → m ≡ 3 * at + n → 3 * at ≤ length out → n + 3 * at ≤ length ws
    → take m (set (paste out (3 * at) (drop (3 * at) ws) n) (3 * at + 1) y)
    ≡ take (3 * at) out ++ s.name ∷ y ∷ tree_word ∷ emits (smaller k (below s.tree)) []
counted_anew {ws} {at} {s} out k n y m h u e d l r =
    pasted_set out (drop (3 * at) ws) (3 * at) n (3 * at + 1) y m l (rw length-drop (omega arith)) (omega arith) d
    ∙ ap (λ xs. set (take (3 * at) out ++ xs) (3 * at + 1) y) (node_words k n h u e)
    ∙ resize (take (3 * at) out) (3 * at) s.name (nodes s.tree) y _ (length-take-le (3 * at) out l)

-- The words of a tree that is held, and of what is offered.
pub held_long : {ws : List ℕ} {n : ℕ} {t : Tree} → Holds ws n t → 3 * n ≤ length ws
held_long {t = t} h = omega (arith, ap length h.begins.words, length_emit t 0 h.begins.rest, h.count)

pub held_words : {ws : List ℕ} {n : ℕ} {t : Tree} → Holds ws n t → take (3 * n) ws ≡ emit t 0 []
held_words {n = n} {t = t} h =
    ap (take (3 * n)) (h.begins.words ∙ emit_rest t 0 h.begins.rest)
    ∙ take_at (emit t 0 []) h.begins.rest (3 * n) (omega (arith, length_emit t 0 [], h.count))

-- Words that begin with those of a tree within the limits hold it.
pub held_from : (ws : List ℕ) (n : ℕ) (t : Tree) → take (3 * n) ws ≡ emit t 0 [] → WellFormed t → n ≡ nodes t → nodes t ≤ 4096 → depth t ≤ 32
    → Holds ws n t
held_from ws n t e w c f d =
    record {
      begins = record {
        rest = drop (3 * n) ws;
        well_formed = w;
        words = sym (take-append-drop (3 * n) ws) ∙ ap (λ xs. xs ++ drop (3 * n) ws) e ∙ sym (emit_rest t 0 (drop (3 * n) ws));
      };
      count = c;
      few = f;
      shallow = d;
    }

pub carried_offer : {xs ys : List ℕ} {n : ℕ} {u : Tree} → xs ≡ ys → Offers ys n u → Offers xs n u
carried_offer e o =
    record { name = o.name; rest = o.rest; well_formed = o.well_formed; words = e ∙ o.words; count = o.count }

module _ {ws : List ℕ} {n : ℕ} {u : Tree} (o : Offers ws n u) where
  pub offer_long : 3 * n ≤ length ws
  offer_long = omega (arith, ap length o.words, length_emit u o.name o.rest, o.count)

  pub offer_words : take (3 * n) ws ≡ emit u o.name []
  offer_words =
      ap (take (3 * n)) (o.words ∙ emit_rest u o.name o.rest)
      ∙ take_at (emit u o.name []) o.rest (3 * n) (omega (arith, length_emit u o.name [], o.count))

-- The first word of a tree is its name, and what is missing has none.
renamed : (u : Tree) (xs : List ℕ) (i n k : ℕ) → length xs ≡ i → (nodes u ≡ 0 → ⊥) → set (xs ++ emit u n []) i k ≡ xs ++ emit u k []
renamed missing xs i n k e z = absurd (z refl)
renamed mark xs i n k e z = set_at xs n _ k i e
renamed (node f) xs i n k e z = set_at xs n _ k i e

unnamed : (u : Tree) (n k : ℕ) → nodes u ≡ 0 → emit u n [] ≡ emit u k []
unnamed missing n k e = refl
unnamed mark n k e = absurd (omega arith)
unnamed (node f) n k e = absurd (omega arith)

module _ {ws : List ℕ} {n : ℕ} {u : Tree} (out : List ℕ) (at k : ℕ) (o : Offers ws n u) (l : 3 * at ≤ length out) where
  pub planted : 0 < n → take (3 * (at + n)) (set (paste out (3 * at) ws (3 * n)) (3 * at) k) ≡ take (3 * at) out ++ emit u k []
  planted z =
      pasted_set out ws (3 * at) (3 * n) (3 * at) k (3 * (at + n)) l (offer_long o) (omega arith) (omega arith)
      ∙ ap (λ xs. set (take (3 * at) out ++ xs) (3 * at) k) (offer_words o)
      ∙ renamed u (take (3 * at) out) (3 * at) o.name k (length-take-le (3 * at) out l) (λ e. omega (arith, o.count))

  pub nothing_planted : n ≤ 0 → take (3 * (at + n)) (paste out (3 * at) ws (3 * n)) ≡ take (3 * at) out ++ emit u k []
  nothing_planted z =
      let e : 3 * (at + n) ≡ 3 * at + 3 * n = omega arith in
      ap (λ m. take m (paste out (3 * at) ws (3 * n))) e
      ∙ take-paste out (3 * at) ws (3 * n) l (offer_long o)
      ∙ ap (λ xs. take (3 * at) out ++ xs) (offer_words o ∙ unnamed u o.name k (omega (arith, o.count)))

-- Some words, and then the first of others.
pub take_past : (xs ys : List ℕ) (n m : ℕ) → n ≡ length xs + m → take n (xs ++ ys) ≡ xs ++ take m ys
take_past [] ys n m e = ap (λ k. take k ys) (e ∙ omega arith)
take_past (x ∷ xs) ys zero m e = absurd (omega arith)
take_past (x ∷ xs) ys (suc n) m e = ap (λ l. x ∷ l) (take_past xs ys n m (omega arith))
