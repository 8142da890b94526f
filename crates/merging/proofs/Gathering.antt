-- The names of the children of a written node, put together one by one.
use Rattle.std.proofs.Common.{◌≡◌, ℕ, ◌+◌, ◌*◌, ◌<◌, ◌≤◌, List, [], ◌∷◌, ◌++◌, length, get_or, take, drop, set, sym, refl, ap, ◌∙◌, subst, append_assoc, arith, length-set, drop-drop}
use Rattle.std.proofs.lemmas.List.{take_more_set, append-nil}
use Rattle.model.specs.Trees.{Forest, empty, child, names, nodes, nodes_all}
use Rattle.stored.specs.Words.{emits}
use Rattle.stored.proofs.Places.{three, emit_view, nodes_some, skip}
use Rattle.merging.specs.Outputs.{Listed, Listing}

-- `left` is still to come from node number `pos` on, and the first `count` words of `out` are the names before it.
pub record Gathering (ws out all : List ℕ) (end pos count : ℕ) : Type 0 where
  pub left : Forest
  pub rest : List ℕ
  pub words : drop (3 * pos) ws ≡ emits left rest
  pub ends : end ≡ pos + nodes_all left
  pub listed : Listed left
  pub so_far : take count out ++ names left ≡ all
  pub counted : count + length (names left) ≡ length all
  pub fits : length all ≤ length out

names_few : (f : Forest) → Listed f → length (names f) ≤ nodes_all f
names_few empty h = omega arith
names_few (child n t f) h = omega (arith, nodes_some t h.0, names_few f h.1)

pub begun : {ws : List ℕ} {at end : ℕ} {f : Forest} (out : List ℕ) → Listing ws at end f → length ws ≤ 3 * length out
    → Gathering ws out (names f) end (at + 1) 0
begun {f = f} out l h =
    record {
      left = f;
      rest = l.rest;
      words = l.words;
      ends = l.ends;
      listed = l.listed;
      so_far = refl;
      counted = omega arith;
      fits = omega (arith, names_few f l.listed, l.ends, l.room);
    }

-- The first of those that are still to come, as the words tell it.
pub record Ahead (ws out all : List ℕ) (end pos count : ℕ) : Type 0 where
  pub name : ℕ
  pub size : ℕ
  pub name_is : get_or ws (3 * pos) 0 ≡ name
  pub size_is : get_or ws (3 * pos + 1) 0 ≡ size
  pub some : 1 ≤ size
  pub in_time : pos + size ≤ end
  pub spare : count < length out
  pub then : Gathering ws (set out count name) all end (pos + size) (count + 1)

snoc : (xs : List ℕ) (y : ℕ) (ys : List ℕ) → (xs ++ y ∷ []) ++ ys ≡ xs ++ y ∷ ys
snoc xs y ys = append_assoc xs (y ∷ []) ys

pub ahead : {ws out all : List ℕ} {end pos count : ℕ} → Gathering ws out all end pos count → pos < end → Ahead ws out all end pos count
ahead {ws} {out} {all} {end} {pos} {count} g l = go g.left g.words g.ends g.listed g.so_far g.counted
  where
    go : (left : Forest) → drop (3 * pos) ws ≡ emits left g.rest → end ≡ pos + nodes_all left → Listed left
        → take count out ++ names left ≡ all → count + length (names left) ≡ length all → Ahead ws out all end pos count
    go empty w e h s c = absurd (omega arith)
    go (child n t f) w e h s c =
        let v = three ws (3 * pos) _ _ _ _ (w ∙ emit_view t n (emits f g.rest) h.0) in
        let q : 3 * (pos + nodes t) ≡ 3 * pos + 3 * nodes t = omega arith in
        record {
          name = n;
          size = nodes t;
          name_is = v.first;
          size_is = v.second;
          some = nodes_some t h.0;
          in_time = omega arith;
          spare = omega (arith, g.fits);
          then = record {
            left = f;
            rest = g.rest;
            words = ap (λ i. drop i ws) q ∙ sym (drop-drop (3 * nodes t) (3 * pos) ws) ∙ ap (drop (3 * nodes t)) w ∙ skip t n (emits f g.rest);
            ends = omega arith;
            listed = h.1;
            so_far = ap (λ x. x ++ names f) (take_more_set out count n (omega (arith, g.fits))) ∙ snoc (take count out) n (names f) ∙ s;
            counted = omega arith;
            fits = rw length-set g.fits;
          };
        }

pub record Gathered (out all : List ℕ) (count : ℕ) : Type 0 where
  pub front : take count out ≡ all
  pub room : count ≤ length out

pub gathered : {ws out all : List ℕ} {end pos count : ℕ} → Gathering ws out all end pos count → end ≤ pos → Gathered out all count
gathered {ws} {out} {all} {end} {pos} {count} g l = go g.left g.ends g.listed g.so_far g.counted
  where
    go : (left : Forest) → end ≡ pos + nodes_all left → Listed left → take count out ++ names left ≡ all
        → count + length (names left) ≡ length all → Gathered out all count
    go empty e h s c = record { front = sym (append-nil (take count out)) ∙ s; room = omega (arith, g.fits) }
    go (child n t f) e h s c = absurd (omega (arith, nodes_some t h.0))

pub sized : {ws out all : List ℕ} {end pos count : ℕ} (a : Ahead ws out all end pos count) (vs : List ℕ) (s : ℕ)
    → s ≡ get_or vs (3 * pos + 1) 0 → vs ≡ ws → s ≡ a.size
sized {pos = pos} a vs s y p = y ∙ ap (λ v. get_or v (3 * pos + 1) 0) p ∙ a.size_is

-- A turn of the loop, by what it read and wrote.
pub taken : {ws out all : List ℕ} {end pos count : ℕ} (a : Ahead ws out all end pos count) (vs outs : List ℕ) (n s : ℕ)
    → n ≡ get_or ws (3 * pos) 0 → s ≡ get_or vs (3 * pos + 1) 0 → vs ≡ ws → outs ≡ set out count n
    → Gathering vs outs all end (pos + s) (count + 1)
taken {ws} {out} {all} {end} {pos} {count} a vs outs n s x y p q =
    let e : outs ≡ set out count a.name = q ∙ ap (set out count) (x ∙ a.name_is) in
    let z : s ≡ a.size = sized a vs s y p in
    subst (λ k. Gathering vs outs all end (pos + k) (count + 1)) (sym z)
    (subst (λ v. Gathering v outs all end (pos + a.size) (count + 1)) (sym p)
    (subst (λ o. Gathering ws o all end (pos + a.size) (count + 1)) (sym e) a.then))
