-- A copy that is written again.
use Rattle.std.proofs.Common.{◌≡◌, ℕ, ◌*◌, ◌<◌, ◌≤◌, List, Ok, Result, sym, ap, ◌∙◌, arith}
use Rattle.std.proofs.lemmas.Bool.{le-leb, lt-leb, cond-true, cond-false}
use Rattle.std.specs.Result.{result_unwrap_or}
use Rattle.model.specs.Trees.{Tree, nodes}
use Rattle.refusals.specs.declared.Refusal.{Refusal}
use Rattle.refusals.specs.Output.{told, left}
use Rattle.records.specs.declared.TreeKind.TheVariants.{Copy}
use Rattle.records.specs.Writing.{written}
use Rattle.exports.specs.Answers.{rewritten_length, rewritten}

module _ (x : Result Tree Refusal) (room : ℕ) (old : List ℕ) (t : Tree) (n : ℕ) (is : Ok t ≡ x) (count : n ≡ nodes t) where
  pub crowded_length : room < 3 * n → 0 ≡ rewritten_length x room old
  crowded_length l = sym (cond-false _ _ _ (lt-leb (3 * nodes t) room (omega arith))) ∙ ap (λ y. rewritten_length y room old) is

  pub crowded_output : room < 3 * n → old ≡ rewritten x room old
  crowded_output l = sym (cond-false _ _ _ (lt-leb (3 * nodes t) room (omega arith))) ∙ ap (λ y. rewritten y room old) is

  pub fits_length : 3 * n ≤ room → (k : ℕ) (r : Result ℕ Refusal) → k ≡ result_unwrap_or r 0 → r ≡ told (written t Copy) old → k ≡ rewritten_length x room old
  fits_length l k r e q =
      e ∙ ap (λ y. result_unwrap_or y 0) q ∙ sym (cond-true _ _ _ (le-leb (3 * nodes t) room (omega arith))) ∙ ap (λ y. rewritten_length y room old) is

  pub fits_output : 3 * n ≤ room → (new : List ℕ) → new ≡ left (written t Copy) old → new ≡ rewritten x room old
  fits_output l new e = e ∙ sym (cond-true _ _ _ (le-leb (3 * nodes t) room (omega arith))) ∙ ap (λ y. rewritten y room old) is
