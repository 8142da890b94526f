-- What is told to other programs.
use Rattle.std.specs.Prelude.{◌≡◌, ℕ, ◌+◌, ◌*◌, cond, List, Ok, Err, Result, nat_le}
use Rattle.std.specs.Result.{result_unwrap_or}
use Rattle.model.specs.Trees.{Tree, nodes}
use Rattle.model.specs.Rulebooks.{open_meaning}
use Rattle.model.specs.Round.{Outcome, round}
use Rattle.loading.specs.Loads.{loaded}
use Rattle.refusals.specs.declared.Refusal.{Refusal}
use Rattle.refusals.specs.Output.{told, left}
use Rattle.records.specs.declared.TreeKind.TheVariants.{Copy}
use Rattle.records.specs.Writing.{written}

abbrev pub accepted : Result Tree Refusal → ℕ
accepted (Ok t) = nodes t + 1
accepted (Err e) = 0

-- A copy that is written again, if its words fit so many.
abbrev pub rewritten_length : Result Tree Refusal → ℕ → List ℕ → ℕ
rewritten_length (Ok t) room old = cond (nat_le (3 * nodes t) room) (result_unwrap_or (told (written t Copy) old) 0) 0
rewritten_length (Err e) room old = 0

abbrev pub rewritten : Result Tree Refusal → ℕ → List ℕ → List ℕ
rewritten (Ok t) room old = cond (nat_le (3 * nodes t) room) (left (written t Copy) old) old
rewritten (Err e) room old = old

-- The answer of a measured round: nothing, or one more than the nodes of the archive that the round of the files' trees gives.
pub data Rounded (archive field bench : List ℕ) (r : ℕ) : Type 0 where
  none : r ≡ 0 → Rounded archive field bench r
  some :
      (l : ℕ) (t : Outcome)
      → loaded open_meaning l archive field bench ≡ Ok t
      → r ≡ nodes (round open_meaning t.archive t.field t.bench).archive + 1
      → Rounded archive field bench r
