-- Tests in a row, of which the first that fails is told.
use Rattle.std.proofs.Common.{◌≡◌, ℕ, ◌≤◌, Bool, true, cond, ltb, length, Ok, Err, Result, sym, refl, ap, ◌∙◌, inl, inr, arith}
use Rattle.std.proofs.lemmas.Bool.{cases_Bool, ltb-false, cond-true, cond-false}
use Rattle.model.specs.Trees.{Tree, Path}
use Rattle.model.specs.Edits.{reached}
use Rattle.refusals.specs.declared.Refusal.{Refusal}
use Rattle.refusals.specs.declared.Reason.TheVariants as reason
use Rattle.refusals.specs.declared.Whose.{Whose}
use Rattle.refusals.specs.Numbers.{refused}
use Rattle.records.specs.Reading.{then, passed}
use Rattle.ledger.specs.Answers.{leads}

pub ok_first : {X Y E : Type 0} {x : Result X E} {v : X} (k : X → Result Y E) → x ≡ Ok v → then x k ≡ k v
ok_first k e = ap (λ y. then y k) e

pub err_first : {X Y E : Type 0} {x : Result X E} {d : E} (k : X → Result Y E) → x ≡ Err d → then x k ≡ Err d
err_first k e = ap (λ y. then y k) e

-- Two answers that cannot be one.
pub not_both : {X E Z : Type 0} {x : X} {d : E} → ◌≡◌ {A = Result X E} (Ok x) (Err d) → Z
not_both e = let n : ◌≡◌ {A = ℕ} 0 1 = cc in absurd (omega arith)

pub same_ok : {X E : Type 0} {x y : X} → ◌≡◌ {A = Result X E} (Ok x) (Ok y) → x ≡ y
same_ok e = cc

pub same_err : {X E : Type 0} {x y : E} → ◌≡◌ {A = Result X E} (Err x) (Err y) → x ≡ y
same_err e = cc

-- A test of which only the refusal, if any, is kept.
pub passed_err : {X : Type 0} (x : Result X Refusal) {d : Refusal} → ◌≡◌ {A = Result (Unit {0}) Refusal} (Err d) (passed (tt {0}) x) → x ≡ Err d
passed_err (Ok v) e = not_both (sym e)
passed_err (Err f) e = cc

pub passed_ok : {X : Type 0} (x : Result X Refusal) → ◌≡◌ {A = Result (Unit {0}) Refusal} (Ok (tt {0})) (passed (tt {0}) x) → (v : X) × (x ≡ Ok v)
passed_ok (Ok v) e = (v, refl)
passed_ok (Err f) e = not_both e

-- Two tests in a row, of which the first passes.
pub both_told : {X Y Z : Type 0} (x : Result X Refusal) (y : Result Y Refusal) (s : Z) {r : Result (Unit {0}) Refusal}
    → ◌≡◌ {A = Result (Unit {0}) Refusal} (Ok (tt {0})) (passed (tt {0}) x) → r ≡ passed (tt {0}) y
    → r ≡ passed (tt {0}) (then x (λ a. then y (λ b. Ok s)))
both_told (Ok v) (Ok w) s p q = q
both_told (Ok v) (Err d) s p q = q
both_told (Err d) y s p q = not_both p

-- A tree that is read, and then held to the rulebook, as two tests.
pub two_fail : {X Y Z E : Type 0} (x : Result X E) (f : X → Result Y E) (k : Y → Result Z E) {d : E} → then x f ≡ Err d → then x (λ v. then (f v) k) ≡ Err d
two_fail (Ok v) f k e = err_first k e
two_fail (Err d) f k e = cc

pub two_pass : {X Y Z E : Type 0} (x : Result X E) (f : X → Result Y E) (k : Y → Result Z E) {v : Y} → then x f ≡ Ok v → then x (λ w. then (f w) k) ≡ k v
two_pass (Ok v) f k e = ok_first k e
two_pass (Err d) f k e = not_both (sym e)

-- A path that is not refused.
pub record Led (t : Tree) (p : Path) (there : Bool) : Type 0 where
  pub short : length p ≤ 32
  pub leads_there : there ≡ true

pub led : (w : Whose) (t : Tree) (p : Path) (there : Bool) (v : Tree) → leads w t p there ≡ Ok v → Led t p there
led w t p there v e =
    elim (cases_Bool (ltb 32 (length p))) [
      | inl y ↦ not_both (sym e ∙ cond-true _ _ _ y)
      | inr n ↦
          let f : cond there (Ok t) (Err (refused reason.Path w (reached t p))) ≡ Ok v = sym (cond-false _ _ _ n) ∙ e in
          elim (cases_Bool there) [
            | inl y ↦ record { short = ltb-false 32 (length p) n; leads_there = y }
            | inr m ↦ not_both (sym f ∙ cond-false _ _ _ m)
          ]
    ]
