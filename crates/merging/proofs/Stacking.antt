-- Frames on the stack.
use Rattle.std.proofs.Common.{◌≡◌, ℕ, ◌+◌, ◌-◌, ◌≤◌, List, ◌++◌, length, get_or, take, drop, Some, None, Option, sym, refl, ap, ◌∙◌, arith, get_or-drop, drop-drop}
use lib.Seq.{paste}
use Rattle.std.proofs.lemmas.List.{drop_at, length-take-le}
use Rattle.std.proofs.lemmas.List.Edits.{paste_all}
use Rattle.merging.specs.Frames.{flag, number}

pub class_none : (c : Option ℕ) → flag c ≡ 0 → None ≡ c
class_none None e = refl
class_none (Some n) e = absurd (omega arith)

pub class_some : (c : Option ℕ) (n : ℕ) → ¬ (flag c ≡ 0) → n ≡ number c → Some n ≡ c
class_some None n d e = absurd (d refl)
class_some (Some k) n d e = ap Some e

pub read_at : (xs ys : List ℕ) (i j : ℕ) → drop i xs ≡ ys → get_or xs (i + j) 0 ≡ get_or ys j 0
read_at xs ys i j e = sym (get_or-drop i xs j 0) ∙ ap (λ l. get_or l j 0) e

pub read_first : (xs ys : List ℕ) (i : ℕ) → drop i xs ≡ ys → get_or xs i 0 ≡ get_or ys 0 0
read_first xs ys i e = ap (λ k. get_or xs k 0) (omega arith) ∙ read_at xs ys i 0 e

pub read_on : (xs ys : List ℕ) (i j : ℕ) → drop i xs ≡ ys → drop (i + j) xs ≡ drop j ys
read_on xs ys i j e = sym (drop-drop j i xs) ∙ ap (drop j) e

-- Words pasted below the top of a stack that grows downwards.
pub stacked : (d ws : List ℕ) (top n : ℕ) → n ≡ length ws → n ≤ top → top ≤ length d
    → drop (top - n) (paste d (top - n) ws n) ≡ ws ++ drop top d
stacked d ws top n e l h =
    let q : top - n + n ≡ top = omega arith in
    ap (drop (top - n)) (paste_all d (top - n) ws n e)
    ∙ drop_at (take (top - n) d) (ws ++ drop (top - n + n) d) (top - n) (length-take-le (top - n) d (omega arith))
    ∙ ap (λ k. ws ++ drop k d) q
