-- What words tell that are a tree's own.
use Rattle.std.proofs.Common.{◌≡◌, ℕ, ◌+◌, ◌-◌, ◌*◌, ◌/◌, ◌<◌, ◌≤◌, T, List, [], ◌∷◌, length, get_or, take, drop, Some, None, sym, refl, ap, ◌∙◌, subst, arith, length-drop}
use Rattle.std.specs.List.{filter}
use Rattle.std.proofs.lemmas.List.{take_at, take_all}
use Rattle.model.specs.Trees.{Tree, missing, mark, node, Forest, empty, child, names, present, is_mark, WellFormed, WellFormedAll, nodes, nodes_all, marks, marks_all, depth, Named, is_name}
use Rattle.stored.specs.Words.{emit, emits, below, Stored, Stands, Holds}
use Rattle.stored.specs.Decoding.{row, first, all_trees, whole_tree, tree_in}
use Rattle.stored.specs.Own.{Owned, OwnedAll, OwnedWhole}
use Rattle.stored.specs.Nodes.{entries, every, every_of, root_of}
use Rattle.stored.proofs.Places.{nodes_below, length_emit, length_emits, emit_view, nodes_some, sound_below, Node, node_at}
use Rattle.stored.proofs.Unique.{emit_rest, body}
use Rattle.stored.proofs.Forests.{join, sound_join, nodes_join, emits_join}
use Rattle.stored.proofs.Nodes.{alone, sound_alone, emit_alone}
use Rattle.stored.proofs.Decoding.{row_decodes, first_alone}

-- The words of trees say those trees.
pub all_decode : {ws : List ℕ} (f : Forest) → WellFormedAll f → ws ≡ emits f [] → all_trees ws ≡ f
unfolding all_trees
all_decode {ws} f w e =
    let k : length ws / 3 ≡ nodes_all f = omega (arith, ap length e, length_emits f []) in
    ap (row (length ws / 3) (length ws / 3)) e ∙ row_decodes (length ws / 3) (length ws / 3) f [] w k (omega arith)

pub whole_decodes : {ws : List ℕ} (t : Tree) (n : ℕ) → T (present t) → WellFormed t → ws ≡ emit t n [] → whole_tree ws ≡ t
unfolding all_trees tree_in
whole_decodes t n p w e = ap first (all_decode (child n t empty) (p, w, tt) e)

pub held_decodes : {ws : List ℕ} (t : Tree) → WellFormed t → ws ≡ emit t 0 [] → whole_tree ws ≡ t
unfolding all_trees tree_in
held_decodes t w e = ap first (all_decode (alone t) (sound_alone t w) (e ∙ emit_alone t [])) ∙ first_alone t

-- Words that are those of a tree are its own.
pub owning : {ws : List ℕ} (t : Tree) (n : ℕ) → T (present t) → WellFormed t → nodes t < 4294967296 → ws ≡ emit t n [] → Owned ws
owning {ws} t n p w few e =
    let q = sym (whole_decodes t n p w e) in
    let name : get_or ws 0 0 ≡ n = ap (λ l. get_or l 0 0) (e ∙ emit_view t n [] p) in
    record {
      is_present = subst (λ u. T (present u)) q p;
      well_formed = subst WellFormed q w;
      words = e ∙ ap (λ u. emit u n []) q ∙ ap (λ k. emit (whole_tree ws) k []) (sym name);
      few = subst (λ u. nodes u < 4294967296) q few;
    }

pub owning_all : {ws : List ℕ} (f : Forest) → WellFormedAll f → nodes_all f < 4294967296 → ws ≡ emits f [] → OwnedAll ws
owning_all f w few e =
    let q = sym (all_decode f w e) in
    record {
      well_formed = subst WellFormedAll q w;
      words = e ∙ ap (λ g. emits g []) q;
      few = subst (λ g. nodes_all g < 4294967296) q few;
    }

pub owning_whole : {ws : List ℕ} (t : Tree) → WellFormed t → nodes t ≤ 4096 → depth t ≤ 32 → Named is_name t → ws ≡ emit t 0 [] → OwnedWhole ws
owning_whole t w few shallow names e =
    let q = sym (held_decodes t w e) in
    record {
      well_formed = subst WellFormed q w;
      words = e ∙ ap (λ u. emit u 0 []) q;
      few = subst (λ u. nodes u ≤ 4096) q few;
      shallow = subst (λ u. depth u ≤ 32) q shallow;
      names = subst (Named is_name) q names;
    }

-- The name that words begin with.
pub name_first : {ws : List ℕ} (t : Tree) (n : ℕ) (rest : List ℕ) → T (present t) → ws ≡ emit t n rest → get_or ws 0 0 ≡ n
name_first t n rest p e = ap (λ l. get_or l 0 0) (e ∙ emit_view t n rest p)

-- A tree that owns its words stands at their front.
abbrev pub own : {ws : List ℕ} → Owned ws → Stored
own {ws} h = record { name = get_or ws 0 0; tree = whole_tree ws; rest = []; is_present = h.is_present; well_formed = h.well_formed }

pub stands_own : {ws : List ℕ} (h : Owned ws) → Stands ws 0 (own h)
stands_own h = record { words = h.words }

-- The words of a tree among others.
pub own_words : (ws : List ℕ) (t : Tree) (n : ℕ) (rest : List ℕ) (k : ℕ) → ws ≡ emit t n rest → k ≡ 3 * nodes t → take k ws ≡ emit t n []
own_words ws t n rest k e q =
    ap (take k) (e ∙ emit_rest t n rest) ∙ take_at (emit t n []) rest k (omega (arith, length_emit t n []))

-- The first of some trees, and those behind it.
pub record Head (ws : List ℕ) : Type 0 where
  pub name : ℕ
  pub tree : Tree
  pub more : Forest
  pub is : all_trees ws ≡ child name tree more
  pub sound : WellFormedAll (child name tree more)
  pub size : get_or ws 1 0 ≡ nodes tree
  pub one : 1 ≤ nodes tree
  pub long : 3 * nodes tree ≤ length ws
  pub words : take (3 * nodes tree) ws ≡ emit tree name []
  pub behind : drop (3 * nodes tree) ws ≡ emits more []
  pub inside : drop 3 ws ≡ emits (join (below tree) more) []
  pub few : nodes tree + nodes_all more < 4294967296

head_given : (ws : List ℕ) (n : ℕ) (t : Tree) (f : Forest) → all_trees ws ≡ child n t f → WellFormedAll (child n t f)
    → nodes_all (child n t f) < 4294967296 → ws ≡ emit t n (emits f []) → Head ws
head_given ws n t f q w few e =
    let stored : Stored = record { name = n; tree = t; rest = emits f []; is_present = w.0; well_formed = w.1 } in
    let here : Stands ws 0 stored = record { words = e } in
    let all : Node ws 0 stored = node_at here in
    record {
      name = n;
      tree = t;
      more = f;
      is = q;
      sound = w;
      size = all.size_is;
      one = nodes_some t w.0;
      long = omega (arith, all.whole);
      words = own_words ws t n (emits f []) (3 * nodes t) e refl;
      behind = let z : 0 + nodes t ≡ nodes t = omega arith in ap (λ k. drop (3 * k) ws) (sym z) ∙ all.behind;
      inside = all.inner ∙ sym (emits_join (below t) f []);
      few = few;
    }

pub head_of : {ws : List ℕ} → OwnedAll ws → (length ws ≡ 0 → ⊥) → Head ws
head_of {ws} h l = go (all_trees ws) refl
  where
    go : (f : Forest) → all_trees ws ≡ f → Head ws
    go empty q = absurd (l (ap length (h.words ∙ ap (λ f. emits f []) q)))
    go (child n t f) q = head_given ws n t f q (subst WellFormedAll q h.well_formed) (subst (λ f. nodes_all f < 4294967296) q h.few) (h.words ∙ ap (λ f. emits f []) q)

pub none_of : {ws : List ℕ} → OwnedAll ws → length ws ≡ 0 → all_trees ws ≡ empty
none_of {ws} h l = go (all_trees ws) refl
  where
    go : (f : Forest) → all_trees ws ≡ f → f ≡ empty
    go empty q = refl
    go (child n t f) q =
        let w = subst WellFormedAll q h.well_formed in
        absurd (omega (arith, nodes_some t w.0, length_emits (child n t f) [], ap length (h.words ∙ ap (λ f. emits f []) q)))

-- Behind the first node come its children, and then its siblings.
every_join : (f g : Forest) (rest : List (ℕ × Tree)) → every_of (join f g) rest ≡ every_of f (every_of g rest)
every_join empty g rest = refl
every_join (child n t f) g rest = ap (every n t) (every_join f g rest)

every_own : (n : ℕ) (t : Tree) (rest : List (ℕ × Tree)) → T (present t) → every n t rest ≡ (n, t) ∷ every_of (below t) rest
every_own n missing rest p = absurd p
every_own n mark rest p = refl
every_own n (node f) rest p = refl

pub every_first : (n : ℕ) (t : Tree) (f : Forest) → T (present t) → every_of (child n t f) [] ≡ (n, t) ∷ every_of (join (below t) f) []
every_first n t f p = every_own n t (every_of f []) p ∙ ap (λ l. (n, t) ∷ l) (sym (every_join (below t) f []))

pub every_alone : (t : Tree) → every_of (alone t) [] ≡ every 0 t []
every_alone missing = refl
every_alone mark = refl
every_alone (node f) = refl

-- The words of a tree that stands at a node, cut out.
pub own_among : {ws : List ℕ} {s : Stored} (at size : ℕ) → Stands ws at s → size ≡ nodes s.tree
    → take (3 * (at + size) - 3 * at) (drop (3 * at) ws) ≡ emit s.tree s.name []
own_among {ws} {s} at size h e = own_words (drop (3 * at) ws) s.tree s.name s.rest (3 * (at + size) - 3 * at) h.words (omega arith)

-- The words of a tree without its name.
pub unnamed : {ws : List ℕ} (h : Owned ws) → take (length ws - 1) (drop 1 ws) ≡ body (own h)
unnamed {ws} h = ap (take (length ws - 1)) (ap (drop 1) h.words) ∙ take_all (length ws - 1) (body (own h)) (omega (arith, ap length h.words, length-drop 1 (emit (whole_tree ws) (get_or ws 0 0) [])))

-- The children of a tree.
pub sound_own : {ws : List ℕ} → Owned ws → WellFormedAll (below (whole_tree ws))
sound_own {ws} h = sound_below (whole_tree ws) h.well_formed

pub few_below : {ws : List ℕ} → Owned ws → nodes_all (below (whole_tree ws)) < 4294967296
few_below {ws} h = omega (arith, h.few, nodes_below (whole_tree ws) h.is_present)

pub own_below : {ws : List ℕ} → Owned ws → take (length ws - 3) (drop 3 ws) ≡ emits (below (whole_tree ws)) []
own_below {ws} h = let w = node_at (stands_own h) in take_all (length ws - 3) (drop 3 ws) (omega (arith, length-drop 3 ws)) ∙ w.inner

-- How many children a tree has.
pub length_entries : (f : Forest) → length (entries f) ≡ length (names f)
length_entries empty = refl
length_entries (child n t f) = omega (arith, length_entries f)

names_few : (f : Forest) → WellFormedAll f → length (names f) ≤ nodes_all f
names_few empty w = omega arith
names_few (child n t f) w = omega (arith, names_few f w.2, nodes_some t w.0)

pub children_few : {ws : List ℕ} → Owned ws → length (entries (below (whole_tree ws))) < 4294967296
children_few {ws} h =
    let f = below (whole_tree ws) in
    omega (arith, length_entries f, names_few f (sound_own h), few_below h)

-- A held tree.
pub held_long : {ws : List ℕ} {n : ℕ} {t : Tree} → Holds ws n t → 3 * n ≤ length ws
held_long {ws} {n} {t} h = omega (arith, h.count, ap length h.begins.words, length_emit t 0 h.begins.rest)

pub held_words : {ws : List ℕ} {n : ℕ} {t : Tree} → Holds ws n t → take (3 * n) ws ≡ emit t 0 []
held_words {ws} {n} {t} h = own_words ws t 0 h.begins.rest (3 * n) h.begins.words (omega (arith, h.count))

pub length_whole : {ws : List ℕ} → OwnedWhole ws → length ws ≡ 3 * nodes (whole_tree ws)
length_whole {ws} h = ap length h.words ∙ omega (arith, length_emit (whole_tree ws) 0 [])

present_some : (t : Tree) → (nodes t ≡ 0 → ⊥) → T (present t)
present_some missing e = e refl
present_some mark e = tt
present_some (node f) e = tt

pub root_owns : {ws : List ℕ} → OwnedWhole ws → (length ws ≡ 0 → ⊥) → Owned ws
root_owns {ws} h l = owning (whole_tree ws) 0 (present_some (whole_tree ws) (λ e. l (omega (arith, length_whole h)))) h.well_formed (omega (arith, h.few)) h.words

pub no_root : {ws : List ℕ} → OwnedWhole ws → length ws ≡ 0 → None ≡ root_of (whole_tree ws)
no_root {ws} h l = go (whole_tree ws) (omega (arith, length_whole h))
  where
    go : (t : Tree) → nodes t ≡ 0 → None ≡ root_of t
    go missing e = refl
    go mark e = absurd (omega arith)
    go (node f) e = absurd (omega arith)

pub some_root : {ws : List ℕ} → OwnedWhole ws → (length ws ≡ 0 → ⊥) → Some (get_or ws 0 0, whole_tree ws) ≡ root_of (whole_tree ws)
some_root {ws} h l =
    let p = present_some (whole_tree ws) (λ e. l (omega (arith, length_whole h))) in
    ap (λ k. Some (k, whole_tree ws)) (name_first (whole_tree ws) 0 [] p h.words) ∙ go (whole_tree ws) p
  where
    go : (t : Tree) → T (present t) → Some (0, t) ≡ root_of t
    go missing p = absurd p
    go mark p = refl
    go (node f) p = refl

-- Of all nodes, the marks.
mutual
  pub marks_every : (n : ℕ) (t : Tree) (rest : List (ℕ × Tree)) → length (filter (λ e. is_mark e.1) (every n t rest)) ≡ marks t + length (filter (λ e. is_mark e.1) rest)
  marks_every n missing rest = omega arith
  marks_every n mark rest = omega arith
  marks_every n (node f) rest = marks_every_of f rest

  marks_every_of : (f : Forest) (rest : List (ℕ × Tree)) → length (filter (λ e. is_mark e.1) (every_of f rest)) ≡ marks_all f + length (filter (λ e. is_mark e.1) rest)
  marks_every_of empty rest = omega arith
  marks_every_of (child n t f) rest = omega (arith, marks_every n t (every_of f rest), marks_every_of f rest)

mutual
  pub length_every : (n : ℕ) (t : Tree) (rest : List (ℕ × Tree)) → length (every n t rest) ≡ nodes t + length rest
  length_every n missing rest = omega arith
  length_every n mark rest = omega arith
  length_every n (node f) rest = omega (arith, length_every_of f rest)

  length_every_of : (f : Forest) (rest : List (ℕ × Tree)) → length (every_of f rest) ≡ nodes_all f + length rest
  length_every_of empty rest = omega arith
  length_every_of (child n t f) rest = omega (arith, length_every n t (every_of f rest), length_every_of f rest)

-- The first tree, cut out, and what is behind its node or behind all of it.
module _ {ws : List ℕ} (h : Head ws) where
  pub first_owns : {own : List ℕ} → own ≡ take (3 * get_or ws 1 0) ws → Owned own
  first_owns e = owning h.tree h.name h.sound.0 h.sound.1 (omega (arith, h.few)) (e ∙ ap (λ k. take (3 * k) ws) h.size ∙ h.words)

  pub others_own : {others : List ℕ} → others ≡ drop (3 * get_or ws 1 0) ws → OwnedAll others
  others_own e = owning_all h.more h.sound.2 (omega (arith, h.few)) (e ∙ ap (λ k. drop (3 * k) ws) h.size ∙ h.behind)

  sound_inside : WellFormedAll (join (below h.tree) h.more)
  sound_inside = sound_join (below h.tree) h.more (sound_below h.tree h.sound.1) h.sound.2

  inside_words : take (length ws - 3) (drop 3 ws) ≡ emits (join (below h.tree) h.more) []
  inside_words = take_all (length ws - 3) (drop 3 ws) (omega (arith, length-drop 3 ws)) ∙ h.inside

  first_named : {own : List ℕ} → own ≡ take (3 * get_or ws 1 0) ws → ◌≡◌ {A = ℕ × Tree} (get_or own 0 0, whole_tree own) (h.name, h.tree)
  first_named e =
      let q = e ∙ ap (λ k. take (3 * k) ws) h.size ∙ h.words in
      λ i. (name_first h.tree h.name [] h.sound.0 q i, whole_decodes h.tree h.name h.sound.0 h.sound.1 q i)

  pub siblings_step : {own others : List ℕ} → own ≡ take (3 * get_or ws 1 0) ws → others ≡ drop (3 * get_or ws 1 0) ws
      → entries (all_trees ws) ≡ (get_or own 0 0, whole_tree own) ∷ entries (all_trees others)
  siblings_step {own} {others} e d =
      let q = all_decode h.more h.sound.2 (d ∙ ap (λ k. drop (3 * k) ws) h.size ∙ h.behind) in
      ap entries h.is ∙ λ i. sym (first_named e) i ∷ entries (sym q i)

  -- The same with what is behind its node.
  pub inside_own : {others : List ℕ} → others ≡ take (length ws - 3) (drop 3 ws) → OwnedAll others
  inside_own e =
      owning_all (join (below h.tree) h.more) sound_inside
      (omega (arith, h.few, nodes_join (below h.tree) h.more, nodes_below h.tree h.sound.0)) (e ∙ inside_words)

  pub preorder_step : {own others : List ℕ} → own ≡ take (3 * get_or ws 1 0) ws → others ≡ take (length ws - 3) (drop 3 ws)
      → every_of (all_trees ws) [] ≡ (get_or own 0 0, whole_tree own) ∷ every_of (all_trees others) []
  preorder_step {own} {others} e d =
      let q = all_decode (join (below h.tree) h.more) sound_inside (d ∙ inside_words) in
      ap (λ f. every_of f []) h.is
      ∙ every_first h.name h.tree h.more h.sound.0
      ∙ λ i. sym (first_named e) i ∷ every_of (sym q i) []
