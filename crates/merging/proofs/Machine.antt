-- The turns of the round keep what the levels come to.
use Rattle.std.proofs.Common.{◌≡◌, ℕ, ◌+◌, ◌<◌, ◌≤◌, Bool, true, false, cond, not, ◌||◌, List, [], ◌∷◌, Option, sym, refl, ap, ◌∙◌, arith}
use mathlib.Core.Path.{fun_ext}
use Rattle.model.specs.Trees.{Tree, missing, mark, node, Forest, empty, child, find, kid, names, Below, present, is_mark, same, union, add, gather}
use Rattle.model.specs.Meaning.{Meaning, class_under}
use Rattle.model.specs.Round.{Outcome, outcome, settled, below, first_five, put_together, steps}
use Rattle.model.proofs.Steps.{came as came_under, or_else, steps_law}
use Rattle.stored.specs.Words.{below as children}
use Rattle.stored.specs.Lookup.{from_on}
use Rattle.stored.proofs.Lookup.{find_onward}
use Rattle.stored.proofs.Forests.{join}
use Rattle.tables.specs.declared.Table.{Table}
use Rattle.tables.specs.declared.Table.TheVariants.{Archive, Field, Bench}
use Rattle.merging.specs.declared.types.Step.{Step}
use Rattle.merging.specs.declared.types.Step.TheVariants.{Agreed, TakeBench, TakeField, Mark, Down}
use Rattle.merging.specs.declared.types.Frame.{Frame}
use Rattle.merging.specs.Tables.{tree_of}
use Rattle.merging.specs.Steps.{made, verdict}
use Rattle.merging.specs.Levels.{Level, came, ahead, sealed, value, more, gained, resume, answer, fresh}
use Rattle.merging.proofs.Finding.{not_both}
use Rattle.merging.proofs.Fronts.{Next}

join_assoc : (f g h : Forest) → join (join f g) h ≡ join f (join g h)
join_assoc empty g h = refl
join_assoc (child n t f) g h = ap (child n t) (join_assoc f g h)

pub join_empty : (f : Forest) → join f empty ≡ f
join_empty empty = refl
join_empty (child n t f) = ap (child n t) (join_empty f)

join_add : (k : ℕ) (x : Tree) (w : Forest) → join (add k x empty) w ≡ add k x w
join_add k missing w = refl
join_add k mark w = refl
join_add k (node f) w = refl

more_is : (d : Forest) (k : ℕ) (x : Tree) (w : Forest) → join d (add k x w) ≡ join (join d (add k x empty)) w
more_is d k x w = ap (join d) (sym (join_add k x w)) ∙ sym (join_assoc d (add k x empty) w)

gather_above : (k : ℕ) (f g : ℕ → Tree) (ks : List ℕ) → Below k ks → ((j : ℕ) → k < j → f j ≡ g j) → gather f ks ≡ gather g ks
gather_above k f g [] b h = refl
gather_above k f g (n ∷ ks) b h =
    ap (λ t. add n t (gather f ks)) (h n b.0) ∙ ap (add n (g n)) (gather_above k f g ks b.1 h)

-- What is left in each table behind the names up to k.
abbrev pub behind : ℕ → (Table → Forest) → Table → Forest
behind k left t = from_on (k + 1) (left t)

came_behind : (m : Meaning) (c : Option ℕ) (left : Table → Forest) (k j : ℕ) → k < j → came m c left j ≡ came m c (behind k left) j
came_behind m c left k j l =
    let h : k + 1 ≤ j = omega arith in
    let x = find_onward (k + 1) j (left Archive) h in
    let y = find_onward (k + 1) j (left Field) h in
    let z = find_onward (k + 1) j (left Bench) h in
    λ i. steps m (class_under m c j) (x i) (y i) (z i)

pub turned : (m : Meaning) (lv : Level) (k : ℕ) → Next k (lv.left Field) (lv.left Bench) → (r : Outcome)
    → came m lv.frame.class lv.left k ≡ r
    → value m lv ≡ value m (gained lv (behind k lv.left) (more lv.done k r))
turned m lv k n r e =
    let c = lv.frame.class in
    let rest = ahead (behind k lv.left) in
    ap (sealed m c lv.one lv.two)
    (fun_ext (λ t.
    let now : ℕ → Tree = λ j. tree_of t (came m c lv.left j) in
    let then : ℕ → Tree = λ j. tree_of t (came m c (behind k lv.left) j) in
    ap (λ ks. join (lv.done t) (gather now ks)) n.names_are
    ∙ ap (λ x. join (lv.done t) (add k (tree_of t x) (gather now rest))) e
    ∙ ap (λ w. join (lv.done t) (add k (tree_of t r) w))
    (gather_above k now then rest n.higher (λ j l. ap (tree_of t) (came_behind m c lv.left k j l)))
    ∙ more_is (lv.done t) k (tree_of t r) (gather then rest)))

-- A step that settles a place.
pub settles : (m : Meaning) (c : Option ℕ) (o a b : Tree) (s : Step) → is_mark a ≡ false → first_five o a b ≡ verdict s a b → ¬ (s ≡ Down)
    → steps m c o a b ≡ made s a b
settles m c o a b Agreed h e d = steps_law m c o a b h ∙ ap (λ v. or_else v (put_together m c a b (came_under m c o a b))) e
settles m c o a b TakeBench h e d = steps_law m c o a b h ∙ ap (λ v. or_else v (put_together m c a b (came_under m c o a b))) e
settles m c o a b TakeField h e d = steps_law m c o a b h ∙ ap (λ v. or_else v (put_together m c a b (came_under m c o a b))) e
settles m c o a b Mark h e d = steps_law m c o a b h ∙ ap (λ v. or_else v (put_together m c a b (came_under m c o a b))) e
settles m c o a b Down h e d = absurd (d refl)

pub stepped : (m : Meaning) (lv : Level) (ls : List Level) (k : ℕ) (s : Step) → Next k (lv.left Field) (lv.left Bench)
    → is_mark (find (lv.left Field) k) ≡ false
    → first_five (find (lv.left Archive) k) (find (lv.left Field) k) (find (lv.left Bench) k)
    ≡ verdict s (find (lv.left Field) k) (find (lv.left Bench) k)
    → ¬ (s ≡ Down)
    → answer m lv ls
    ≡ answer m (gained lv (behind k lv.left) (more lv.done k (made s (find (lv.left Field) k) (find (lv.left Bench) k)))) ls
stepped m lv ls k s n h e d =
    ap (resume m ls lv.name) (turned m lv k n _ (settles m (class_under m lv.frame.class k) _ _ _ s h e d))

-- The step down.
pub record Sinks (o a b : Tree) : Type 0 where
  pub unmarked : is_mark o ≡ false
  pub one : Forest
  pub two : Forest
  pub is_one : a ≡ node one
  pub is_two : b ≡ node two

pub sinks : (o a b : Tree) → is_mark a ≡ false → is_mark b ≡ false → first_five o a b ≡ below → Sinks o a b
sinks o a b ma mb e = go (same a b) (same a o) (same b o) (is_mark o) refl a b ma mb e
  where
    no : {A : Type 0} {r : Outcome} → settled r ≡ below → A
    no q = let z : ◌≡◌ {A = ℕ} 0 1 = cc in absurd (omega arith)

    go : (x y z w : Bool) → is_mark o ≡ w → (a b : Tree) → is_mark a ≡ false → is_mark b ≡ false
        → cond x (settled (outcome a a b))
        (cond y (settled (outcome b b b))
        (cond z (settled (outcome a a a))
        (cond w (settled (outcome mark a b))
        (cond (not (present a) || not (present b)) (settled (outcome mark a b)) below))))
        ≡ below
        → Sinks o a b
    go true y z w p a b ma mb q = no q
    go false true z w p a b ma mb q = no q
    go false false true w p a b ma mb q = no q
    go false false false true p a b ma mb q = no q
    go false false false false p missing b ma mb q = no q
    go false false false false p mark b ma mb q = not_both refl ma
    go false false false false p (node f) missing ma mb q = no q
    go false false false false p (node f) mark ma mb q = not_both refl mb
    go false false false false p (node f) (node g) ma mb q = record { unmarked = p; one = f; two = g; is_one = refl; is_two = refl }

pub opened_value : (m : Meaning) (k : ℕ) (f : Frame) (o a b : Tree) (s : Sinks o a b) (left : Table → Forest)
    → left Archive ≡ children o → left Field ≡ s.one → left Bench ≡ s.two
    → first_five o a b ≡ below
    → steps m f.class o a b ≡ value m (fresh k f s.one s.two left)
opened_value m k f o a b s left x y z e =
    ap (λ t. steps m f.class o t b) s.is_one
    ∙ ap (steps m f.class o (node s.one)) s.is_two
    ∙ steps_law m f.class o (node s.one) (node s.two) refl
    ∙ ap (λ v. or_else v (put_together m f.class (node s.one) (node s.two) (came_under m f.class o (node s.one) (node s.two))))
    ((λ i. first_five o (sym s.is_one i) (sym s.is_two i)) ∙ e)
    ∙ go o s.unmarked
    ∙ (λ i. spread (sym x i) (sym y i) (sym z i))
  where
    spread : Forest → Forest → Forest → Outcome
    spread p q r =
        sealed m f.class s.one s.two
        (λ t. gather (λ j. tree_of t (steps m (class_under m f.class j) (find p j) (find q j) (find r j))) (union (names q) (names r)))

    go : (o : Tree) → is_mark o ≡ false
        → put_together m f.class (node s.one) (node s.two)
        (λ j. steps m (class_under m f.class j) (kid o j) (find s.one j) (find s.two j))
        ≡ spread (children o) s.one s.two
    go missing h = refl
    go mark h = not_both refl h
    go (node p) h = refl

-- A level with nothing left is closed.
pub shut : (m : Meaning) (lv : Level) → lv.left Field ≡ empty → lv.left Bench ≡ empty
    → value m lv ≡ sealed m lv.frame.class lv.one lv.two lv.done
shut m lv p q =
    ap (sealed m lv.frame.class lv.one lv.two)
    (fun_ext (λ t.
    (λ i. join (lv.done t) (gather (λ k. tree_of t (came m lv.frame.class lv.left k)) (union (names (p i)) (names (q i)))))
    ∙ join_empty (lv.done t)))
