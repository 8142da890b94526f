-- What holds of every list of calls under one rulebook.
use Rattle.std.specs.Prelude.{◌≡◌, ℕ, ◌↔◌, List, ◌∷◌, ◌++◌, Some, Ok}
use Rattle.model.specs.Trees.{mark, Path, at}
use Rattle.model.specs.Meaning.{Meaning, Obeys}
use Rattle.model.specs.Round.{Outcome}
use Rattle.model.specs.Safety.{AtOrBelowConflict, Safe, DoesAsMuch}
use Rattle.ledger.specs.declared.Call.{Call}
use Rattle.ledger.specs.declared.Call.TheVariants.{Draw}
use Rattle.ledger.specs.Answers.{draw_answer}
use Rattle.ledger.specs.Ledger.{file, start, stands, held}

-- Among these calls is a draw, from the trees s, that was not refused and came to r. Whether the round was adopted or dropped does not matter.
pub record RoundDrawn (m : Meaning) (l : ℕ) (calls : List Call) (s r : Outcome) : Type 0 where
  pub before : List Call
  pub after : List Call
  pub among : calls ≡ before ++ Draw ∷ after
  pub stood : stands m l start before ≡ file s
  pub came : draw_answer m l s ≡ Ok r

-- Both copies of what stands obey.
pub record CopiesObey (m : Meaning) (s : Outcome) : Type 0 where
  pub field : Obeys m (Some 0) s.field
  pub bench : Obeys m (Some 0) s.bench

abbrev pub CopiesObeyAfter : Meaning → ℕ → List Call → Type 0
CopiesObeyAfter m l calls = CopiesObey m (held (stands m l start calls))

-- The archive of every round is marked exactly at the paths in conflict and below them.
abbrev pub RoundsAreMarkedAtConflicts : Meaning → ℕ → List Call → Type 0
RoundsAreMarkedAtConflicts m l calls =
    (s r : Outcome)
    → RoundDrawn m l calls s r
    → (p : Path)
    → (at r.archive p ≡ mark) ↔ AtOrBelowConflict m (Some 0) s.archive s.field s.bench p

-- Every round was safe.
abbrev pub RoundsAreSafe : Meaning → ℕ → List Call → Type 0
RoundsAreSafe m l calls = (s r : Outcome) → RoundDrawn m l calls s r → Safe m s.archive s.field s.bench r

-- No safe outcome of the same trees does more than a round did.
abbrev pub NoRivalDoesMore : Meaning → ℕ → List Call → Type 0
NoRivalDoesMore m l calls =
    (s r : Outcome)
    → RoundDrawn m l calls s r
    → (rival : Outcome)
    → Safe m s.archive s.field s.bench rival
    → DoesAsMuch r rival
