-- The steps of a splice along the path.
use Rattle.std.proofs.Common.{◌≡◌, ℕ, ◌+◌, ◌-◌, ◌*◌, ◌<◌, ◌≤◌, List, [], ◌∷◌, ◌++◌, length, get_or, take, drop, sym, refl, ap, ◌∙◌, subst, append_assoc, arith, length-append, drop-drop}
use lib.Seq.{paste}
use Rattle.std.proofs.lemmas.List.{drop_more, drop_all, take_at, length-take-le}
use Rattle.std.proofs.lemmas.List.Edits.{take-paste}
use Rattle.model.specs.Trees.{Tree, missing, mark, node, Forest, find, Path, at, add, WellFormed, nodes, nodes_all, marks}
use Rattle.model.specs.Edits.{set_at, HasParent}
use Rattle.model.proofs.Trees.{sound_find}
use Rattle.model.proofs.Edits.{set_root, nodes_among, parent_below, unmarked_find, edits_are_counted}
use Rattle.stored.specs.Words.{tree_word, emit, emits, below, Stored, Stands}
use Rattle.stored.specs.Lookup.{smaller}
use Rattle.stored.proofs.Places.{inside, skip, length_emit}
use Rattle.stored.proofs.Forests.{emits_join}
use Rattle.stored.proofs.Unique.{emit_rest, emits_rest}
use Rattle.editing.specs.Splitting.{larger}
use Rattle.editing.specs.Splicing.{Splices}
use Rattle.editing.proofs.Siblings.{set_between, nodes_split, words_from, emits_add}
use Rattle.editing.proofs.Grafts.{take_past}

-- The splice has followed the first i names of the path to `pos`, where a tree stands, or nothing. The words written so far and those of the
-- tree with the rest of the edit make up the target; `gone` nodes make way for those of u.
pub record Due (ws out : List ℕ) (count : ℕ) (path : Path) (u : Tree) (target : List ℕ) (gone i pos : ℕ) : Type 0 where
  pub tree : Tree
  pub name : ℕ
  pub rest : List ℕ
  pub well_formed : WellFormed tree
  pub unmarked : marks tree ≡ 0
  pub parent : i < length path → HasParent tree (drop i path)
  pub words : drop (3 * pos) ws ≡ emit tree name rest
  pub within : pos + nodes tree ≤ count
  pub named : (j : ℕ) → i ≡ j + 1 → get_or path j 0 ≡ name
  pub so_far : take (3 * pos) out ++ emit (set_at tree (drop i path) u) name rest ≡ target
  pub sizes : nodes (set_at tree (drop i path) u) + gone ≡ nodes tree + nodes u

-- What an edit makes of the words of a tree, from the smaller children on.
emits_set : (f : Forest) (k : ℕ) (p : Path) (u : Tree) (n : ℕ) (rest : List ℕ) → WellFormed (node f)
    → emit (set_at (node f) (k ∷ p) u) n rest
    ≡ n ∷ nodes (set_at (node f) (k ∷ p) u) ∷ tree_word ∷ emits (smaller k f) (emit (set_at (find f k) p u) k (emits (larger k f) rest))
emits_set f k p u n rest w =
    let x = set_at (find f k) p u in
    ap (λ l. n ∷ nodes (set_at (node f) (k ∷ p) u) ∷ tree_word ∷ l)
    (ap (λ g. emits g rest) (set_between f k p u w.0)
    ∙ emits_join (smaller k f) (add k x (larger k f)) rest
    ∙ ap (emits (smaller k f)) (emits_add k x (larger k f) rest))

parent_of : (f : Forest) (k : ℕ) (path : Path) (i : ℕ) → HasParent (node f) (k ∷ drop i path) → i < length path → HasParent (find f k) (drop i path)
parent_of f k path i h l =
    let e = drop_more path i 0 l in
    subst (HasParent (find f k)) (sym e) (parent_below (node f) k (get_or path i 0) (drop (i + 1) path) (subst (λ q. HasParent (node f) (k ∷ q)) e h))

module _ {ws out : List ℕ} {count : ℕ} {path : Path} {u : Tree} {target : List ℕ} {gone i pos : ℕ} (d : Due ws out count path u target gone i pos) where
  -- Where names are left, the tree is there.
  abbrev pub self : i < length path → Stored
  self l = record { name = d.name; tree = d.tree; rest = d.rest; is_present = (d.parent l).0; well_formed = d.well_formed }

  pub stands : (l : i < length path) → Stands ws pos (self l)
  stands l = record { words = d.words }

  pub few_gone : (grown : ℕ) → grown ≡ nodes u → gone ≤ nodes d.tree + grown
  few_gone grown e = omega (arith, d.sizes)

  -- One name on.
  pub steps : (out' : List ℕ) (k grown pos' : ℕ) → i < length path → get_or path i 0 ≡ k → grown ≡ nodes u
      → pos' ≡ pos + 1 + nodes_all (smaller k (below d.tree))
      → take (3 * pos') out' ≡ take (3 * pos) out ++ d.name ∷ (nodes d.tree + grown - gone) ∷ tree_word ∷ emits (smaller k (below d.tree)) []
      → Due ws out' count path u target gone (i + 1) pos'
  steps out' k grown pos' l e n q w = go d.tree d.well_formed d.unmarked (d.parent l) d.words d.within d.so_far d.sizes q w
    where
      path_is : drop i path ≡ k ∷ drop (i + 1) path
      path_is = drop_more path i 0 l ∙ ap (λ j. j ∷ drop (i + 1) path) e

      go : (t : Tree) → WellFormed t → marks t ≡ 0 → HasParent t (drop i path) → drop (3 * pos) ws ≡ emit t d.name d.rest
          → pos + nodes t ≤ count
          → take (3 * pos) out ++ emit (set_at t (drop i path) u) d.name d.rest ≡ target
          → nodes (set_at t (drop i path) u) + gone ≡ nodes t + nodes u
          → pos' ≡ pos + 1 + nodes_all (smaller k (below t))
          → take (3 * pos') out' ≡ take (3 * pos) out ++ d.name ∷ (nodes t + grown - gone) ∷ tree_word ∷ emits (smaller k (below t)) []
          → Due ws out' count path u target gone (i + 1) pos'
      go missing wf m h x r s z q w = absurd h.0
      go mark wf m h x r s z q w = absurd (omega arith)
      go (node f) wf m h x r s z q w =
          let here : Stands ws pos (record { name = d.name; tree = node f; rest = d.rest; is_present = tt; well_formed = wf }) = record { words = x } in
          let p = drop (i + 1) path in
          let last = emit (set_at (find f k) p u) k (emits (larger k f) d.rest) in
          let all = nodes_split f k wf.0 wf.1 in
          let z' = subst (λ y. nodes (set_at (node f) y u) + gone ≡ nodes (node f) + nodes u) path_is z in
          let size : nodes (node f) + grown - gone ≡ nodes (set_at (node f) (k ∷ p) u) = omega arith in
          record {
            tree = find f k;
            name = k;
            rest = emits (larger k f) d.rest;
            well_formed = sound_find f k wf.1;
            unmarked = unmarked_find f k m;
            parent = parent_of f k path (i + 1) (subst (HasParent (node f)) path_is h);
            words = ap (λ o. drop (3 * o) ws) q ∙ words_from f k wf.0 wf.1 (inside here);
            within = omega arith;
            named = λ j y. let o : j ≡ i = omega arith in ap (λ o. get_or path o 0) o ∙ e;
            so_far =
                ap (λ l. l ++ last) w
                ∙ append_assoc (take (3 * pos) out) (d.name ∷ (nodes (node f) + grown - gone) ∷ tree_word ∷ emits (smaller k f) []) last
                ∙ ap (λ l. take (3 * pos) out ++ d.name ∷ (nodes (node f) + grown - gone) ∷ tree_word ∷ l) (sym (emits_rest (smaller k f) last))
                ∙ ap (λ y. take (3 * pos) out ++ d.name ∷ y ∷ tree_word ∷ emits (smaller k f) last) size
                ∙ ap (λ l. take (3 * pos) out ++ l) (sym (emits_set f k p u d.name d.rest wf))
                ∙ ap (λ y. take (3 * pos) out ++ emit (set_at (node f) y u) d.name d.rest) (sym path_is)
                ∙ s;
            sizes = omega (arith, nodes_among f k p u wf.0);
          }

-- Where the path ends: what stood there goes, and u comes, under the last name.
pub record Landed (ws out : List ℕ) (count : ℕ) (path : Path) (u : Tree) (target : List ℕ) (gone pos : ℕ) : Type 0 where
  pub name : ℕ
  pub rest : List ℕ
  pub named : (j : ℕ) → length path ≡ j + 1 → get_or path j 0 ≡ name
  pub within : pos + gone ≤ count
  pub behind : drop (3 * (pos + gone)) ws ≡ rest
  pub so_far : take (3 * pos) out ++ emit u name rest ≡ target

pub lands : {ws out : List ℕ} {count : ℕ} {path : Path} {u : Tree} {target : List ℕ} {gone i pos : ℕ}
    → Due ws out count path u target gone i pos → i ≡ length path → Landed ws out count path u target gone pos
lands {ws} {out} {count} {path} {u} {target} {gone} {i} {pos} d e =
    let all : drop i path ≡ [] = drop_all i path (omega arith) in
    let root : set_at d.tree (drop i path) u ≡ u = ap (λ p. set_at d.tree p u) all ∙ set_root d.tree u in
    let g : gone ≡ nodes d.tree = omega (arith, d.sizes, ap nodes root) in
    let o : 3 * (pos + gone) ≡ 3 * pos + 3 * nodes d.tree = omega arith in
    record {
      name = d.name;
      rest = d.rest;
      named = λ j q. d.named j (e ∙ q);
      within = omega (arith, d.within);
      behind =
          ap (λ n. drop n ws) o
          ∙ sym (drop-drop (3 * nodes d.tree) (3 * pos) ws)
          ∙ ap (drop (3 * nodes d.tree)) d.words
          ∙ skip d.tree d.name d.rest;
      so_far = ap (λ t. take (3 * pos) out ++ emit t d.name d.rest) (sym root) ∙ d.so_far;
    }

module _ {ws : List ℕ} {count : ℕ} {path : Path} {source : List ℕ} {grown most : ℕ} {t u : Tree} (s : Splices ws count path source grown most t u) (gone : ℕ) (g : gone ≡ nodes (at t path)) where
  abbrev pub target : List ℕ
  target = emit (set_at t path u) 0 s.holds.begins.rest

  -- The nodes of the new tree.
  pub new_count : nodes (set_at t path u) + gone ≡ count + grown
  new_count =
      omega (arith, edits_are_counted t path u s.holds.begins.well_formed s.unmarked s.parent, s.holds.count, s.offer.count)

  pub sets_off : (out : List ℕ) → Due ws out count path u target gone 0 0
  sets_off out =
      let b = s.holds.begins in
      record {
        tree = t;
        name = 0;
        rest = b.rest;
        well_formed = b.well_formed;
        unmarked = s.unmarked;
        parent = λ l. s.parent;
        words = b.words;
        within = omega (arith, s.holds.count);
        named = λ j q. absurd (omega arith);
        so_far = refl;
        sizes = omega (arith, new_count, s.holds.count, s.offer.count);
      }

  -- The tree is whole once u and the words behind are there too.
  pub whole : {out : List ℕ} {pos : ℕ} (d : Landed ws out count path u target gone pos) (out' : List ℕ) (i n r : ℕ) → 3 * pos ≤ length out
      → i ≡ 3 * (pos + grown) → n ≡ 3 * (count - (pos + gone)) → r ≡ 3 * (count + grown - gone) → i ≤ length out' → n ≤ length (drop (3 * (pos + gone)) ws)
      → take i out' ≡ take (3 * pos) out ++ emit u d.name []
      → take r (paste out' i (drop (3 * (pos + gone)) ws) n) ≡ emit (set_at t path u) 0 []
  whole {out} {pos} d out' i n r l e f h y z w =
      let front = take (3 * pos) out ++ emit u d.name [] in
      let own = emit (set_at t path u) 0 [] in
      let long : length front ≡ i =
      length-append (take (3 * pos) out) (emit u d.name []) ∙ omega (arith, length-take-le (3 * pos) out l, length_emit u d.name [], s.offer.count) in
      let sum : r ≡ i + n = omega (arith, new_count, d.within) in
      ap (λ m. take m (paste out' i (drop (3 * (pos + gone)) ws) n)) sum
      ∙ take-paste out' i (drop (3 * (pos + gone)) ws) n y z
      ∙ ap (λ x. x ++ take n (drop (3 * (pos + gone)) ws)) w
      ∙ ap (λ x. front ++ take n x) d.behind
      ∙ sym (take_past front d.rest r n (omega (arith, sum)))
      ∙ ap (take r) (append_assoc (take (3 * pos) out) (emit u d.name []) d.rest ∙ ap (λ x. take (3 * pos) out ++ x) (sym (emit_rest u d.name d.rest)) ∙ d.so_far ∙ emit_rest (set_at t path u) 0 s.holds.begins.rest)
      ∙ take_at own s.holds.begins.rest r (omega (arith, length_emit (set_at t path u) 0 [], new_count))
