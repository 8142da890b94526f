-- Regions lie within the words and apart from each other, so that a write to one leaves the others as they were.
use Rattle.std.proofs.Common.{◌≡◌, ℕ, ◌+◌, ◌-◌, ◌*◌, ◌<◌, ◌≤◌, Bool, true, false, cond, eqb, ◌⊎◌, List, [], ◌∷◌, ◌++◌, length, get_or, take, drop, set, vec_items, vec_len, sym, refl, ap, ◌∙◌, inl, inr, ⊎_elim, mul-le-mul_left, mul-add, arith, length-drop, length-set}
use native.Mathlib.Nat.{mul-div-le}
use lib.Seq.{paste, take-set-lt}
use Rattle.std.proofs.lemmas.List.{same_lists, get_or-take, get_or-drop, get_or-set_other, drop-set-add, take-take, drop-drop, places, length-take-le}
use Rattle.std.proofs.lemmas.Slice.{between_is}
use Rattle.std.proofs.lemmas.List.Edits.{length-paste}
use Rattle.std.proofs.lemmas.Bool.{cases_lt, eq-eqb}
use Rattle.area.specs.Layout.{limit_of, slot, start, width}
use Rattle.area.specs.Views.{equal, part, view, limit, Only}
use Rattle.area.specs.declared.types.Area.{Area}
use Rattle.tables.specs.declared.Table.{Table}
use Rattle.tables.specs.declared.Table.TheVariants.{Archive, Field, Bench}
use Rattle.area.specs.declared.regions.Region.{Region}
use Rattle.area.specs.declared.regions.Region.TheVariants.{Tree, New, Stack, Names}

limit_fits : (n : ℕ) → 64 * limit_of n ≤ n
unfolding limit_of
limit_fits n = omega (arith, mul-div-le (n - 1024) 64)

slot_small : (t : Table) → slot t ≤ 2
slot_small Archive = omega arith
slot_small Field = omega arith
slot_small Bench = omega arith

ends : (r : Region) → start r + width r ≤ 64
ends (Tree t) = omega (arith, slot_small t)
ends (New t) = omega (arith, slot_small t)
ends Stack = omega arith
ends Names = omega arith

within : (l n : ℕ) (r : Region) → 64 * l ≤ n → l * start r + l * width r ≤ n
within l n r h = omega (arith, mul-add l (start r) (width r), mul-le-mul_left l (ends r))

fits : (a : Area) → 64 * a.limit ≤ length (vec_items a.words)
fits a = omega (arith, a.words.ok.0, a.ok, limit_fits (vec_len a.words))

-- Each region ends before the words do.
pub region_fits : (a : Area) (r : Region) → a.limit * start r + a.limit * width r ≤ vec_len a.words
region_fits a r = within a.limit (vec_len a.words) r (omega (arith, a.ok, limit_fits (vec_len a.words)))

pub impossible : {X : Type 0} → false ≡ true → X
impossible e = let o : ◌≡◌ {A = ℕ} 0 1 = cc in absurd (omega arith)

slots_differ : (s t : Table) → eqb (slot s) (slot t) ≡ false → slot s ≡ slot t → ⊥
slots_differ s t e q = impossible (sym e ∙ eq-eqb (slot s) (slot t) q)

slots_apart : (s t : Table) → eqb (slot s) (slot t) ≡ false → (slot t < slot s) ⊎ (slot s < slot t)
slots_apart s t e =
    let n = slots_differ s t e in
    ⊎_elim inr (λ h. inl (omega arith)) (cases_lt (slot s) (slot t))

apart : (q r : Region) → equal q r ≡ false → (start r + width r ≤ start q) ⊎ (start q + width q ≤ start r)
apart (Tree s) (Tree t) e = ⊎_elim (λ h. inl (omega arith)) (λ h. inr (omega arith)) (slots_apart s t e)
apart (Tree s) (New t) e = inr (omega (arith, slot_small s, slot_small t))
apart (Tree s) Stack e = inr (omega (arith, slot_small s))
apart (Tree s) Names e = inr (omega (arith, slot_small s))
apart (New s) (Tree t) e = inl (omega (arith, slot_small s, slot_small t))
apart (New s) (New t) e = ⊎_elim (λ h. inl (omega arith)) (λ h. inr (omega arith)) (slots_apart s t e)
apart (New s) Stack e = inr (omega (arith, slot_small s))
apart (New s) Names e = inr (omega (arith, slot_small s))
apart Stack (Tree t) e = inl (omega (arith, slot_small t))
apart Stack (New t) e = inl (omega (arith, slot_small t))
apart Stack Stack e = impossible (sym e)
apart Stack Names e = inr (omega arith)
apart Names (Tree t) e = inl (omega (arith, slot_small t))
apart Names (New t) e = inl (omega (arith, slot_small t))
apart Names Stack e = inl (omega arith)
apart Names Names e = impossible (sym e)

-- No index is in two regions.
disjoint : (l k : ℕ) (q r : Region) → equal q r ≡ false → l * start q ≤ k → k < l * start q + l * width q
    → l * start r ≤ k → k < l * start r + l * width r → ⊥
disjoint l k q r e a b c d =
    ⊎_elim
    (λ h. omega (arith, mul-add l (start r) (width r), mul-le-mul_left l h))
    (λ h. omega (arith, mul-add l (start q) (width q), mul-le-mul_left l h))
    (apart q r e)

part_length : (ws : List ℕ) (l : ℕ) (r : Region) → 64 * l ≤ length ws → length (part ws l r) ≡ l * width r
unfolding part
part_length ws l r h =
    let w = within l (length ws) r h in
    length-take-le (l * width r) (drop (l * start r) ws) (rw length-drop (omega arith))

pub view_length : (a : Area) (r : Region) → length (view a r) ≡ limit a * width r
unfolding view limit
view_length a r = part_length (vec_items a.words) a.limit r (fits a)

get_d_part : (ws : List ℕ) (l : ℕ) (r : Region) (i d : ℕ) → i < l * width r → get_or (part ws l r) i d ≡ get_or ws (l * start r + i) d
unfolding part
get_d_part ws l r i d h = get_or-take (l * width r) (drop (l * start r) ws) i d h ∙ get_or-drop (l * start r) ws i d

-- Words that agree at each index of a region agree on the region.
part_same : (vs ws : List ℕ) (l : ℕ) (r : Region) → 64 * l ≤ length ws → length vs ≡ length ws
    → ((k d : ℕ) → l * start r ≤ k → k < l * start r + l * width r → get_or vs k d ≡ get_or ws k d) → part vs l r ≡ part ws l r
part_same vs ws l r h e f =
    let a = part_length vs l r (omega arith) in
    let b = part_length ws l r h in
    same_lists _ _ (a ∙ sym b) (λ k d n. get_d_part vs l r k d (omega arith) ∙ f (l * start r + k) d (omega arith) (omega arith) ∙ sym (get_d_part ws l r k d (omega arith)))

part_set : (ws : List ℕ) (l : ℕ) (r : Region) (i x : ℕ) → i < l * width r → part (set ws (l * start r + i) x) l r ≡ set (part ws l r) i x
unfolding part
part_set ws l r i x h =
    ap (take (l * width r)) (drop-set-add (l * start r) ws i x) ∙ take-set-lt (l * width r) (drop (l * start r) ws) i x h

part_set_other : (ws : List ℕ) (l : ℕ) (q r : Region) (i x : ℕ) → 64 * l ≤ length ws → equal q r ≡ false → i < l * width r
    → part (set ws (l * start r + i) x) l q ≡ part ws l q
part_set_other ws l q r i x h e n =
    part_same (set ws (l * start r + i) x) ws l q h (length-set ws (l * start r + i) x)
    (λ k d a b. get_or-set_other ws (l * start r + i) k x d (λ z. disjoint l k q r e a b (omega arith) (omega arith)))

pub before_paste : (d s : List ℕ) (at n k z : ℕ) → at + n ≤ length d → n ≤ length s → k < at → get_or (paste d at s n) k z ≡ get_or d k z
before_paste d s at n k z h m l = grind (arith, places)

pub in_paste : (d s : List ℕ) (at n k z : ℕ) → at + n ≤ length d → n ≤ length s → at ≤ k → k < at + n → get_or (paste d at s n) k z ≡ get_or s (k - at) z
in_paste d s at n k z h m l u = grind (arith, places)

pub past_paste : (d s : List ℕ) (at n k z : ℕ) → at + n ≤ length d → n ≤ length s → at + n ≤ k → get_or (paste d at s n) k z ≡ get_or d k z
past_paste d s at n k z h m l = grind (arith, places)

-- The first n words of s, pasted into region r at i.
module _ (ws : List ℕ) (l : ℕ) (r : Region) (i : ℕ) (s : List ℕ) (n : ℕ) (h : 64 * l ≤ length ws) (b : i + n ≤ l * width r) (m : n ≤ length s) where
  abbrev pasted : List ℕ
  pasted = paste ws (l * start r + i) s n

  room : l * start r + i + n ≤ length ws
  room = let w = within l (length ws) r h in omega arith

  inner_room : i + n ≤ length (part ws l r)
  inner_room = rw (part_length ws l r h) b

  length_pasted : length pasted ≡ length ws
  length_pasted = length-paste ws (l * start r + i) s n room m

  pasted_at : (k d : ℕ) → k < l * width r → get_or pasted (l * start r + k) d ≡ get_or (paste (part ws l r) i s n) k d
  pasted_at k d u =
      let p : l * start r + k - (l * start r + i) ≡ k - i = omega arith in
      ⊎_elim
      (λ v. before_paste ws s (l * start r + i) n (l * start r + k) d room m (omega arith) ∙ sym (get_d_part ws l r k d u) ∙ sym (before_paste (part ws l r) s i n k d inner_room m v))
      (λ v. ⊎_elim
      (λ o. in_paste ws s (l * start r + i) n (l * start r + k) d room m (omega arith) (omega arith) ∙ ap (λ y. get_or s y d) p ∙ sym (in_paste (part ws l r) s i n k d inner_room m v o))
      (λ o. past_paste ws s (l * start r + i) n (l * start r + k) d room m (omega arith) ∙ sym (get_d_part ws l r k d u) ∙ sym (past_paste (part ws l r) s i n k d inner_room m o))
      (cases_lt k (i + n)))
      (cases_lt k i)

  part_paste : part pasted l r ≡ paste (part ws l r) i s n
  part_paste =
      let p = part_length pasted l r (omega (arith, length_pasted)) in
      let q = length-paste (part ws l r) i s n inner_room m ∙ part_length ws l r h in
      same_lists _ _ (p ∙ sym q) (λ k d u. get_d_part pasted l r k d (omega arith) ∙ pasted_at k d (omega arith))

  part_paste_other : (q : Region) → equal q r ≡ false → part pasted l q ≡ part ws l q
  part_paste_other q e =
      part_same pasted ws l q h length_pasted
      (λ k d u v. ⊎_elim
      (λ o. before_paste ws s (l * start r + i) n k d room m o)
      (λ o. ⊎_elim
      (λ y. absurd (disjoint l k q r e u v (omega arith) (omega arith)))
      (λ y. past_paste ws s (l * start r + i) n k d room m y)
      (cases_lt k (l * start r + i + n)))
      (cases_lt k (l * start r + i)))

not_in_one : (b : Bool) → cond b true false ≡ false → b ≡ false
not_in_one true e = e
not_in_one false e = refl

-- Region r of b holds xs, and nothing else has changed since a.
pub record Became (r : Region) (xs : List ℕ) (a b : Area) : Type 0 where
  pub here : view b r ≡ xs
  pub only : Only (r ∷ []) a b

became : (a b : Area) (r : Region) (ws xs : List ℕ) → b.limit ≡ a.limit → vec_items b.words ≡ ws → part ws a.limit r ≡ xs
    → ((q : Region) → equal q r ≡ false → part ws a.limit q ≡ view a q) → Became r xs a b
unfolding view limit
became a b r ws xs e w f g =
    let at : (q : Region) → view b q ≡ part ws a.limit q = λ q. ap (λ l. part (vec_items b.words) l q) e ∙ ap (λ y. part y a.limit q) w in
    record { here = at r ∙ f; only = record { same_limit = e; same = λ q d. at q ∙ g q (not_in_one _ d) } }

pub put : (a b : Area) (r : Region) (i x k : ℕ) → i < limit a * width r → b.limit ≡ a.limit → k ≡ a.limit * start r + i
    → vec_items b.words ≡ set (vec_items a.words) k x → Became r (set (view a r) i x) a b
unfolding view limit
put a b r i x k h e p w =
    let ws = vec_items a.words in
    became a b r _ _ e (w ∙ ap (λ m. set ws m x) p) (part_set ws a.limit r i x h) (λ q d. part_set_other ws a.limit q r i x (fits a) d h)

pub written : (a b : Area) (r : Region) (i : ℕ) (s : List ℕ) (n k : ℕ) → i + n ≤ limit a * width r → n ≤ length s → b.limit ≡ a.limit
    → k ≡ a.limit * start r + i → vec_items b.words ≡ paste (vec_items a.words) k s n → Became r (paste (view a r) i s n) a b
unfolding view limit
written a b r i s n k h m e p w =
    let ws = vec_items a.words in
    became a b r _ _ e (w ∙ ap (λ z. paste ws z s n) p) (part_paste ws a.limit r i s n (fits a) h m) (part_paste_other ws a.limit r i s n (fits a) h m)

-- Words of a region, counted from its start or from that of the area.
part_inner : (ws : List ℕ) (l : ℕ) (r : Region) (i n : ℕ) → i + n ≤ l * width r → take n (drop (l * start r + i) ws) ≡ take n (drop i (part ws l r))
unfolding part
part_inner ws l r i n h =
    let ys = drop (l * start r) ws in
    sym (ap (take n) (sym (between_is ys i (l * width r))) ∙ take-take n (l * width r - i) (drop i ys) (omega arith) ∙ ap (take n) (drop-drop i (l * start r) ws))

pub copied : (a b : Area) (from : Region) (i : ℕ) (to : Region) (j n k m z : ℕ) → i + n ≤ limit a * width from → j + n ≤ limit a * width to
    → b.limit ≡ a.limit → z ≡ n → k ≡ a.limit * start from + i → m ≡ a.limit * start to + j
    → vec_items b.words ≡ paste (vec_items a.words) m (drop k (vec_items a.words)) z
    → Became to (paste (view a to) j (drop i (view a from)) n) a b
unfolding view limit
copied a b from i to j n k m z h g e d p q w =
    let ws = vec_items a.words in
    let f = within a.limit (length ws) from (fits a) in
    let o = written a b to j (drop k ws) n m g (rw length-drop (omega arith)) e q (w ∙ ap (paste ws m (drop k ws)) d) in
    let x : take n (drop k ws) ≡ take n (drop i (view a from)) = ap (λ z. take n (drop z ws)) p ∙ part_inner ws a.limit from i n h in
    record { here = o.here ∙ ap (λ ys. take j (view a to) ++ ys ++ drop (j + n) (view a to)) x; only = o.only }
