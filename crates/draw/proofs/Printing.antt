-- A load and a draw, and what is reported of them.
use Rattle.std.proofs.Common.{◌≡◌, ℕ, true, List, [], ◌∷◌, is_err, IfOk, Ok, Err, Result, sym, ap, ◌∙◌, true≢false, Bor}
use Rattle.model.specs.Rulebooks.{plate_meaning}
use Rattle.area.specs.Layout.{limit_of}
use Rattle.ledger.specs.declared.Answer.{Answer}
use Rattle.ledger.specs.declared.Call.TheVariants.{Load, Draw}
use Rattle.ledger.specs.Ledger.{State, start, stands, answers}
use Rattle.history.specs.Desks.{first_refused, replay_report}
use Rattle.history.proofs.Runs.{reports_first}
use Rattle.draw.specs.Printed.{most_nodes, printed}

pub limit_is : (n : ℕ) → n ≡ 16384 → limit_of n ≡ most_nodes
unfolding limit_of
limit_is n e = ap limit_of e

-- What follows from what was made.
pub made_so : {X E : Type 0} {P Q : X → Type 0} (r : Result X E) → IfOk r P → ((x : X) → P x → Q x) → IfOk r Q
made_so (Ok x) p f = f x p
made_so (Err e) p f = tt

pub nothing_made : {X E : Type 0} (P : X → Type 0) (r : Result X E) → is_err r ≡ true → IfOk r P
nothing_made P (Ok x) e = absurd (true≢false (sym e))
nothing_made P (Err d) e = tt

pub prints : (o a b : Bor (List ℕ)) (archive field bench : List ℕ) (l : ℕ) (s : State) (told : List Answer)
    → o.now ≡ archive → a.now ≡ field → b.now ≡ bench → l ≡ most_nodes
    → s ≡ stands plate_meaning l start (Load o a b ∷ Draw ∷ [])
    → told ≡ answers plate_meaning l start (Load o a b ∷ Draw ∷ [])
    → replay_report (first_refused told) s ≡ printed archive field bench
prints o a b archive field bench l s told x y z e p q =
    let calls = Load o a b ∷ Draw ∷ [] in
    ap (λ xs. replay_report (first_refused xs) s) (q ∙ ap (λ k. answers plate_meaning k start calls) e)
    ∙ ap (replay_report (first_refused (answers plate_meaning most_nodes start calls))) (p ∙ ap (λ k. stands plate_meaning k start calls) e)
    ∙ reports_first plate_meaning most_nodes o a b
    ∙ (λ i. printed (x i) (y i) (z i))
