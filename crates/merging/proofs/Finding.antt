-- What stands where a lookup stopped.
use Rattle.std.proofs.Common.{◌≡◌, ℕ, ◌*◌, Bool, true, false, cond, not, ◌||◌, T, List, drop, Ok, Err, sym, refl, ap, ◌∙◌, subst, arith}
use mathlib.Core.Bool.{beq}
use Rattle.model.specs.Trees.{Tree, missing, mark, node, present, is_mark, WellFormed, same}
use Rattle.model.specs.Round.{outcome, settled, below, first_five}
use Rattle.stored.specs.Words.{Stored, Stands}
use Rattle.stored.specs.Lookup.{Spot, at_of, is_found}
use Rattle.tables.specs.declared.Table.{Table}
use Rattle.tables.specs.declared.Table.TheVariants.{Archive, Field, Bench}
use Rattle.merging.specs.declared.types.Step.{Step}
use Rattle.merging.specs.declared.types.Step.TheVariants.{Agreed, TakeBench, TakeField, Mark, Down}
use Rattle.merging.specs.Tables.{At, gone, there, tree_of}
use Rattle.merging.specs.Steps.{made, source_of, brought}

pub carried : {xs ys : List ℕ} {at : ℕ} {s : Stored} → xs ≡ ys → Stands ys at s → Stands xs at s
carried {at = at} e h = record { words = ap (drop (3 * at)) e ∙ h.words }

pub not_both : {A : Type 0} {b : Bool} → b ≡ true → b ≡ false → A
not_both e f = let z : ◌≡◌ {A = ℕ} 0 1 = cc in absurd (omega arith)

-- A place where something was found.
pub record Stood (ws : List ℕ) (k : ℕ) (s : Spot) (t : Tree) : Type 0 where
  pub rest : List ℕ
  pub is_present : T (present t)
  pub well_formed : WellFormed t
  pub here : Stands ws (at_of s) (record { name = k; tree = t; rest = rest; is_present = is_present; well_formed = well_formed })

pub stood : {ws : List ℕ} {k : ℕ} {s : Spot} {t : Tree} → At ws k s t → is_found s ≡ true → Stood ws k s t
stood (gone f) e = not_both e f
stood (there {rest = rest} {p = p} {w = w} f h) e = record { rest = rest; is_present = p; well_formed = w; here = h }

pub nothing : {ws : List ℕ} {k : ℕ} {s : Spot} {t : Tree} → At ws k s t → is_found s ≡ false → t ≡ missing
nothing (gone f) e = refl
nothing (there f h) e = not_both f e

there_present : (t : Tree) → T (present t) → present t ≡ true
there_present missing p = absurd p
there_present mark p = refl
there_present (node f) p = refl

pub found_present : {ws : List ℕ} {k : ℕ} {s : Spot} {t : Tree} → At ws k s t → is_found s ≡ present t
found_present (gone f) = f
found_present (there {t} {p = p} f h) = f ∙ sym (there_present t p)

-- The tree that stands in an equal list.
pub at_as : {xs ys : List ℕ} {k : ℕ} {s : Spot} {t : Tree} → xs ≡ ys → At ys k s t → At xs k s t
at_as {k = k} {s = s} {t = t} e h = subst (λ l. At l k s t) (sym e) h

pub at_named : {ws : List ℕ} {j k : ℕ} {s : Spot} {t : Tree} → j ≡ k → At ws k s t → At ws j s t
at_named {ws} {s = s} {t = t} e h = subst (λ n. At ws n s t) (sym e) h

pub at_spot : {ws : List ℕ} {k : ℕ} {r s : Spot} {t : Tree} → r ≡ s → At ws k s t → At ws k r t
at_spot {ws} {k} {t = t} e h = subst (λ x. At ws k x t) (sym e) h

pub stood_at : {ws : List ℕ} {k i : ℕ} {s : Spot} {t : Tree} → s ≡ Ok i → At ws k s t → Stood ws k (Ok i) t
stood_at e h = stood (at_spot (sym e) h) refl

pub nothing_at : {ws : List ℕ} {k i : ℕ} {s : Spot} {t : Tree} → s ≡ Err i → At ws k s t → t ≡ missing
nothing_at e h = nothing (at_spot (sym e) h) refl

-- Where one of two is missing.
pub none_first : (t : Tree) → beq false (present t) ≡ same missing t
none_first missing = refl
none_first mark = refl
none_first (node f) = refl

pub none_second : (t : Tree) → beq (present t) false ≡ same t missing
none_second missing = refl
none_second mark = refl
none_second (node f) = refl

pub neither : {a b : Tree} → a ≡ missing → b ≡ missing → true ≡ same a b
neither p q = λ i. same (sym p i) (sym q i)

pub first_only : (a b : Tree) → T (present a) → b ≡ missing → false ≡ same a b
first_only a b p q = (λ i. beq (sym (there_present a p) i) false) ∙ none_second a ∙ ap (same a) (sym q)

pub second_only : (a b : Tree) → a ≡ missing → T (present b) → false ≡ same a b
second_only a b p q = (λ i. beq false (sym (there_present b q) i)) ∙ none_first b ∙ ap (λ t. same t b) (sym p)

-- The tests of the first five steps, one by one.
pub five : (o a b : Tree) (x y z w u v : Bool)
    → same a b ≡ x → same a o ≡ y → same b o ≡ z → is_mark o ≡ w → present a ≡ u → present b ≡ v
    → first_five o a b
    ≡ cond x (settled (outcome a a b))
    (cond y (settled (outcome b b b))
    (cond z (settled (outcome a a a))
    (cond w (settled (outcome mark a b))
    (cond (not u || not v) (settled (outcome mark a b)) below))))
five o a b x y z w u v p q r s t n =
    λ i. cond (p i) (settled (outcome a a b))
    (cond (q i) (settled (outcome b b b))
    (cond (r i) (settled (outcome a a a))
    (cond (s i) (settled (outcome mark a b))
    (cond (not (t i) || not (n i)) (settled (outcome mark a b)) below))))

-- What a step puts into a table.
pub brought_is : (s : Step) (t : Table) (ts : Table → Tree) → brought (source_of s t) ts ≡ tree_of t (made s (ts Field) (ts Bench))
brought_is Agreed Archive ts = refl
brought_is Agreed Field ts = refl
brought_is Agreed Bench ts = refl
brought_is TakeBench Archive ts = refl
brought_is TakeBench Field ts = refl
brought_is TakeBench Bench ts = refl
brought_is TakeField Archive ts = refl
brought_is TakeField Field ts = refl
brought_is TakeField Bench ts = refl
brought_is Mark Archive ts = refl
brought_is Mark Field ts = refl
brought_is Mark Bench ts = refl
brought_is Down Archive ts = refl
brought_is Down Field ts = refl
brought_is Down Bench ts = refl
