-- The laws by which callers reason about an area, whose words they never see.
use Rattle.std.proofs.Common.{◌≡◌, ℕ, zero, suc, ◌+◌, ◌*◌, ◌≤◌, Bool, true, false, cond, List, [], ◌∷◌, length, take, drop, sym, refl, ap, ◌∙◌, arith}
use lib.Seq.{paste}
use Rattle.std.proofs.lemmas.List.{take_at, length-take-le}
use Rattle.std.proofs.lemmas.Bool.{eqb-true, eq-eqb}
use Rattle.area.specs.Layout.{limit_of, slot, width}
use Rattle.area.specs.Views.{equal, among, subset, view, limit, Only}
use Rattle.area.specs.declared.types.Area.{Area}
use Rattle.tables.specs.declared.Table.{Table}
use Rattle.tables.specs.declared.Table.TheVariants.{Archive, Field, Bench}
use Rattle.area.specs.declared.regions.Region.{Region}
use Rattle.area.specs.declared.regions.Region.TheVariants.{Tree, New, Stack, Names}
use Rattle.area.proofs.Parts.{impossible}
pub use Rattle.area.proofs.Parts.{view_length, before_paste, in_paste, past_paste}

table_of : ℕ → Table
table_of zero = Archive
table_of (suc zero) = Field
table_of (suc (suc n)) = Bench

table_of_slot : (t : Table) → table_of (slot t) ≡ t
unfolding table_of
table_of_slot Archive = refl
table_of_slot Field = refl
table_of_slot Bench = refl

same_table : (s t : Table) → slot s ≡ slot t → s ≡ t
same_table s t e = sym (table_of_slot s) ∙ ap table_of e ∙ table_of_slot t

-- The test finds equal regions, and only those.
pub equal_self : (r : Region) → equal r r ≡ true
equal_self (Tree t) = eq-eqb (slot t) (slot t) refl
equal_self (New t) = eq-eqb (slot t) (slot t) refl
equal_self Stack = refl
equal_self Names = refl

pub equal_true : (q r : Region) → equal q r ≡ true → q ≡ r
equal_true (Tree s) (Tree t) e = ap Tree (same_table s t (eqb-true _ _ e))
equal_true (Tree s) (New t) e = impossible e
equal_true (Tree s) Stack e = impossible e
equal_true (Tree s) Names e = impossible e
equal_true (New s) (Tree t) e = impossible e
equal_true (New s) (New t) e = ap New (same_table s t (eqb-true _ _ e))
equal_true (New s) Stack e = impossible e
equal_true (New s) Names e = impossible e
equal_true Stack (Tree t) e = impossible e
equal_true Stack (New t) e = impossible e
equal_true Stack Stack e = refl
equal_true Stack Names e = impossible e
equal_true Names (Tree t) e = impossible e
equal_true Names (New t) e = impossible e
equal_true Names Stack e = impossible e
equal_true Names Names e = refl

first_of : (b c : Bool) → cond b c false ≡ true → b ≡ true
first_of true c e = refl
first_of false c e = e

second_of : (b c : Bool) → cond b c false ≡ true → c ≡ true
second_of true c e = e
second_of false c e = impossible e

neither : (q s : Region) (rs : List Region) (b c : Bool) → equal q s ≡ b → among s rs ≡ true → among q rs ≡ false → c ≡ false
    → cond b true c ≡ false
neither q s rs true c f h e d =
    impossible (sym e ∙ ap (λ r. among r rs) (equal_true q s f) ∙ h)
neither q s rs false c f h e d = d

-- A region that is not in a list is in no part of it.
pub outside : (q : Region) (ss rs : List Region) → subset ss rs ≡ true → among q rs ≡ false → among q ss ≡ false
outside q [] rs h e = refl
outside q (s ∷ ss) rs h e =
    neither q s rs _ _ refl (first_of _ _ h) e (outside q ss rs (second_of (among s rs) _ h) e)

-- For a region whose table is not known, where `refl` does not show it.
pub at_front : (r : Region) (rs : List Region) → subset (r ∷ []) (r ∷ rs) ≡ true
at_front r rs = rw (equal_self r)

pub limit_small : (a : Area) → limit a ≤ 4096
unfolding limit limit_of
limit_small a = omega (arith, a.ok)

-- Where no region was written.
pub none : (rs : List Region) (a : Area) → Only rs a a
none rs a = record { same_limit = refl; same = λ q d. refl }

-- One change after another, the second to no region that the first may not write.
pub also : {rs ss : List Region} {a b c : Area} → Only rs a b → Only ss b c → subset ss rs ≡ true → Only rs a c
also {rs} {ss} f g h =
    record { same_limit = g.same_limit ∙ f.same_limit; same = λ q d. g.same q (outside q ss rs h d) ∙ f.same q d }

-- One more change to the region that stands first, whatever its table.
pub again : {r : Region} {rs : List Region} {a b c : Area} → Only (r ∷ rs) a b → Only (r ∷ []) b c → Only (r ∷ rs) a c
again {r} {rs} f g = also f g (at_front r rs)

-- More regions may change than do.
pub wider : {rs ss : List Region} {a b : Area} → Only ss a b → subset ss rs ≡ true → Only rs a b
wider {rs} {a = a} g h = also (none rs a) g h

pub same_length : {rs : List Region} {a b : Area} → Only rs a b → (r : Region) → length (view b r) ≡ length (view a r)
same_length {a = a} {b = b} f r = view_length b r ∙ ap (λ l. l * width r) f.same_limit ∙ sym (view_length a r)

-- What was pasted at the front is read back there; the shelf's `take-paste`, `drop-paste` and `paste-paste` say more.
pub paste_front : (d s : List ℕ) (n : ℕ) → n ≤ length s → take n (paste d 0 s n) ≡ take n s
paste_front d s n h = take_at (take n s) (drop (0 + n) d) n (length-take-le n s h)
