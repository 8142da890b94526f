-- Words tell the tree: what stands at a place is one tree, under one name.
use Rattle.std.proofs.Common.{◌≡◌, ℕ, ◌+◌, Bool, true, false, T, List, [], ◌∷◌, ◌++◌, drop, Decides, sym, refl, ap, ◌∙◌, append_assoc, arith}
use Rattle.std.proofs.lemmas.Bool.{both_ways}
use Rattle.model.specs.Trees.{Tree, missing, mark, node, Forest, empty, child, present, WellFormed, WellFormedAll, nodes, nodes_all, same}
use Rattle.model.proofs.Trees.{one_same, not_same}
use Rattle.stored.specs.Words.{tree_word, emit, emits, Stored, Stands}
use Rattle.stored.proofs.Places.{nodes_some}

pub record Same (t u : Tree) (m k : ℕ) (x y : List ℕ) : Type 0 where
  pub trees : t ≡ u
  pub names : m ≡ k
  pub rests : x ≡ y

pub record Sames (f g : Forest) (x y : List ℕ) : Type 0 where
  pub forests : f ≡ g
  pub rests : x ≡ y

children : {m k : ℕ} {t u : Tree} {f g : Forest} → m ≡ k → t ≡ u → f ≡ g → child m t f ≡ child k u g
children p q r = cc

mutual
  pub same_tree : (t u : Tree) (m k : ℕ) (x y : List ℕ) → T (present t) → T (present u) → WellFormed t → WellFormed u
      → emit t m x ≡ emit u k y → Same t u m k x y
  same_tree missing u m k x y p q v w e = absurd p
  same_tree mark missing m k x y p q v w e = absurd q
  same_tree mark mark m k x y p q v w e = record { trees = refl; names = cc; rests = cc }
  same_tree mark (node g) m k x y p q v w e = let z : ◌≡◌ {A = ℕ} 1 0 = cc in absurd (omega arith)
  same_tree (node f) missing m k x y p q v w e = absurd q
  same_tree (node f) mark m k x y p q v w e = let z : ◌≡◌ {A = ℕ} 0 1 = cc in absurd (omega arith)
  same_tree (node f) (node g) m k x y p q v w e =
      let n : 1 + nodes_all f ≡ 1 + nodes_all g = cc in
      let l : emits f x ≡ emits g y = cc in
      let s = same_forest f g x y v.1 w.1 (omega arith) l in
      record { trees = ap node s.forests; names = cc; rests = s.rests }

  pub same_forest : (f g : Forest) (x y : List ℕ) → WellFormedAll f → WellFormedAll g → nodes_all f ≡ nodes_all g
      → emits f x ≡ emits g y → Sames f g x y
  same_forest empty empty x y v w n e = record { forests = refl; rests = e }
  same_forest empty (child m u g) x y v w n e = absurd (omega (arith, nodes_some u w.0))
  same_forest (child m t f) empty x y v w n e = absurd (omega (arith, nodes_some t v.0))
  same_forest (child m t f) (child k u g) x y v w n e =
      let s = same_tree t u m k (emits f x) (emits g y) v.0 w.0 v.1 w.1 e in
      let r = same_forest f g x y v.2 w.2 (omega (arith, ap nodes s.trees)) s.rests in
      record { forests = children s.names s.trees r.forests; rests = r.rests }

pub unique : {ws : List ℕ} {at : ℕ} {s t : Stored} → Stands ws at s → Stands ws at t
    → Same s.tree t.tree s.name t.name s.rest t.rest
unique {s = s} {t = t} h k =
    same_tree s.tree t.tree s.name t.name s.rest t.rest s.is_present t.is_present s.well_formed t.well_formed
    (sym h.words ∙ k.words)

-- The words of a tree or a forest, and then the others.
mutual
  pub emit_rest : (t : Tree) (n : ℕ) (rest : List ℕ) → emit t n rest ≡ emit t n [] ++ rest
  emit_rest missing n rest = refl
  emit_rest mark n rest = refl
  emit_rest (node f) n rest = ap (λ l. n ∷ (1 + nodes_all f) ∷ tree_word ∷ l) (emits_rest f rest)

  pub emits_rest : (f : Forest) (rest : List ℕ) → emits f rest ≡ emits f [] ++ rest
  emits_rest empty rest = refl
  emits_rest (child n t f) rest =
      emit_rest t n (emits f rest)
      ∙ ap (λ l. emit t n [] ++ l) (emits_rest f rest)
      ∙ sym (append_assoc (emit t n []) (emits f []) rest)
      ∙ ap (λ l. l ++ rest) (sym (emit_rest t n (emits f [])))

-- The words of a tree without its name.
abbrev pub body : Stored → List ℕ
body s = drop 1 (emit s.tree s.name [])

under_zero : (s : Stored) → emit s.tree 0 [] ≡ 0 ∷ body s
under_zero s = go s.tree s.is_present
  where
    go : (t : Tree) → T (present t) → emit t 0 [] ≡ 0 ∷ drop 1 (emit t s.name [])
    go missing p = absurd p
    go mark p = refl
    go (node f) p = refl

-- They tell whether two trees are the same.
pub body_tells : (s t : Stored) → body s ≡ body t → s.tree ≡ t.tree
body_tells s t e =
    (same_tree s.tree t.tree 0 0 [] [] s.is_present t.is_present s.well_formed t.well_formed
    (under_zero s ∙ ap (λ l. 0 ∷ l) e ∙ sym (under_zero t))).trees

pub tree_tells : (s t : Stored) → s.tree ≡ t.tree → body s ≡ body t
tree_tells s t e = ap (drop 1) (sym (under_zero s) ∙ ap (λ u. emit u 0 []) e ∙ under_zero t)

pub decided : (s t : Tree) (r : Bool) → Decides r (s ≡ t) → r ≡ same s t
decided s t true d = sym (one_same s t (d.0 refl))
decided s t false d = sym (not_same s t (λ e. both_ways false refl (d.1 e)))
