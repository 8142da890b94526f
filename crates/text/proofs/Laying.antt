-- Bytes laid one behind the other.
use Rattle.std.proofs.Common.{◌≡◌, ℕ, ◌+◌, ◌-◌, ◌^◌, ◌<◌, ◌≤◌, min, leb, List, [], ◌∷◌, ◌++◌, length, get_or, take, drop, set, decimal, sym, refl, ap, ◌∙◌, subst, inl, inr, append_assoc, arith, length-append, length-set, drop-set-lt}
use Rattle.std.proofs.lemmas.List.{set_past, take_more_set, take_more, take-append-drop}
use Rattle.std.proofs.lemmas.Bool.{cases_lt, cond-true, le-leb}
use Rattle.refusals.specs.Output.{left}
use Rattle.text.specs.declared.output.Output.{Output}
use Rattle.text.specs.Output.{laid, Laid}

laid_append : (old : List ℕ) (at : ℕ) (xs ys : List ℕ) → laid (laid old at xs) (at + length xs) ys ≡ laid old at (xs ++ ys)
laid_append old at [] ys = ap (λ k. laid old k ys) (omega arith)
laid_append old at (x ∷ xs) ys =
    ap (λ k. laid (laid (set old at x) (at + 1) xs) k ys) (omega arith) ∙ laid_append (set old at x) (at + 1) xs ys

laid_past : (old : List ℕ) (at : ℕ) (bs : List ℕ) → length old ≤ at → laid old at bs ≡ old
laid_past old at [] l = refl
laid_past old at (b ∷ bs) l = laid_past (set old at b) (at + 1) bs (simp length-set (omega arith)) ∙ set_past old at b l

-- No bytes, and bytes behind others.
pub nothing : (a : Output) → length a.bytes.now < 2 ^ 64 → a.at < 2 ^ 64 → Laid a [] a
nothing a l k = record { same_output = refl; holds = refl; ends = omega arith; fits = l }

pub kept : {a b : Output} {bs : List ℕ} → Laid a bs b → Laid b [] b
kept {b = b} l = nothing b l.fits (omega (arith, l.ends))

-- Where the place behind the first bytes is counted only up to the largest number, the others lie past the end in any case.
onward : (b : List ℕ) (k j : ℕ) (ys : List ℕ) → length b < 2 ^ 64 → j ≡ min k (2 ^ 64 - 1) → laid b j ys ≡ laid b k ys
onward b k j ys l e =
    elim (cases_lt k (2 ^ 64)) [
      | inl m ↦ ap (λ i. laid b i ys) (omega arith)
      | inr m ↦ laid_past b j ys (omega arith) ∙ sym (laid_past b k ys (omega arith))
    ]

pub then : {a b c : Output} {xs ys : List ℕ} → Laid a xs b → Laid b ys c → Laid a (xs ++ ys) c
then {a} {b} {c} {xs} {ys} p q =
    record {
      same_output = q.same_output ∙ p.same_output;
      holds =
          q.holds
          ∙ onward b.bytes.now (a.at + length xs) b.at ys p.fits p.ends
          ∙ ap (λ l. laid l (a.at + length xs) ys) p.holds
          ∙ laid_append a.bytes.now a.at xs ys;
      ends = omega (arith, p.ends, q.ends, length-append xs ys);
      fits = q.fits;
    }

pub being : {a b : Output} {xs ys : List ℕ} → xs ≡ ys → Laid a xs b → Laid a ys b
being {a} {b} e p = subst (λ l. Laid a l b) e p

-- One byte more of a list.
pub more : {a b c : Output} (bs : List ℕ) (i : ℕ) → i < length bs → Laid a (take i bs) b → Laid b (get_or bs i 0 ∷ []) c
    → Laid a (take (i + 1) bs) c
more bs i h p q = being (sym (take_more bs i 0 h)) (then p q)

-- A word and a number that is known by another name.
pub fielded : {a b : Output} (word : List ℕ) {k number : ℕ} → k ≡ number → Laid a (word ++ decimal k) b → Laid a (word ++ decimal number) b
fielded word e p = being (ap (λ i. word ++ decimal i) e) p

-- Where there is room, the bytes stand in the output, between what was there.
laid_whole : (old : List ℕ) (at : ℕ) (bs : List ℕ) → at + length bs ≤ length old
    → laid old at bs ≡ take at old ++ (bs ++ drop (at + length bs) old)
laid_whole old at [] h =
    sym (take-append-drop at old) ∙ ap (λ k. take at old ++ drop k old) (let e : at ≡ at + 0 = omega arith in e)
laid_whole old at (b ∷ bs) h =
    let k = at + 1 + length bs in
    let q : k ≡ at + length (b ∷ bs) = omega arith in
    laid_whole (set old at b) (at + 1) bs (simp length-set (omega arith))
    ∙ ap (λ l. l ++ (bs ++ drop k (set old at b))) (take_more_set old at b (omega arith))
    ∙ ap (λ l. (take at old ++ b ∷ []) ++ (bs ++ l)) (drop-set-lt k old at b (omega arith))
    ∙ append_assoc (take at old) (b ∷ []) (bs ++ drop k old)
    ∙ ap (λ j. take at old ++ (b ∷ (bs ++ drop j old))) q

-- What an output holds after a call that counted first and then wrote.
pub written : (bs old new : List ℕ) → length bs ≤ length old → new ≡ laid old 0 bs → new ≡ left bs old
written bs old new h e =
    let p : 0 + length bs ≡ length bs = omega arith in
    e
    ∙ laid_whole old 0 bs (omega arith)
    ∙ ap (λ k. bs ++ drop k old) p
    ∙ sym (cond-true (leb (length bs) (length old)) (bs ++ drop (length bs) old) old (le-leb (length bs) (length old) h))
