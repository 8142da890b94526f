-- What is shown of a file that was read.
use Rattle.std.proofs.Common.{◌≡◌, ℕ, Bool, true, false, cond, List, ◌++◌, length, take, drop, nat_le, Ok, Err, Result, sym, ap, ◌∙◌, subst, arith}
use Rattle.std.proofs.Math.Seq.{take-append_seam}
use Rattle.model.specs.Trees.{Tree}
use Rattle.refusals.specs.declared.Refusal.{Refusal}
use Rattle.text.specs.Text.{text}
use Rattle.round.specs.Shown.{length_shown, output_shown, TextOf}

-- A buffer that was written, cut where the answer says, is the text.
pub text_stands : (x : Result Tree Refusal) (old new : List ℕ) (n : ℕ) → ◌≡◌ {A = Result ℕ Refusal} (Ok n) (length_shown x old) → new ≡ output_shown x old
    → TextOf x (take n new)
text_stands (Err e) old new n q p = tt
text_stands (Ok t) old new n q p = go (nat_le (length (text t)) (length old)) _ q p
  where
    go : (b : Bool) (e : Refusal) → ◌≡◌ {A = Result ℕ Refusal} (Ok n) (cond b (Ok (length (text t))) (Err e))
        → new ≡ cond b (text t ++ drop (length (text t)) old) old
        → take n new ≡ text t
    go true e q p =
        let k : n ≡ length (text t) = cc in
        rw (k, p) (take-append_seam (text t) _)
    go false e q p = let z : ◌≡◌ {A = ℕ} 0 1 = cc in absurd (omega arith)

-- The same once the buffer is back in its vector, of so many elements.
pub vector_stands : (x : Result Tree Refusal) (old new more : List ℕ) (n len : ℕ) → length new ≡ len
    → ◌≡◌ {A = Result ℕ Refusal} (Ok n) (length_shown x old) → new ≡ output_shown x old
    → TextOf x (take n (take len (new ++ more)))
vector_stands x old new more n len h q p =
    subst (λ (ws : List ℕ). TextOf x (take n ws)) (sym (take-append_seam new more) ∙ ap (λ k. take k (new ++ more)) h) (text_stands x old new n q p)
