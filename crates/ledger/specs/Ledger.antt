-- The ledger: what stands after a list of calls, and what each of them answers, reckoned from the calls, the limit and the meaning of the rulebook.
use Rattle.std.specs.Prelude.{ℕ, List, [], ◌∷◌, Some, None, Ok, Err, Option, Result}
use Rattle.model.specs.Trees.{missing, marks}
use Rattle.model.specs.Meaning.{Meaning}
use Rattle.model.specs.Round.{Outcome, outcome}
use Rattle.refusals.specs.declared.Refusal.{Refusal}
use Rattle.ledger.specs.declared.Call.{Call}
use Rattle.ledger.specs.declared.Call.TheVariants.{Load, Put, Strike, Draw, Adopt, Drop}
use Rattle.ledger.specs.declared.Answer.{Answer}
use Rattle.ledger.specs.declared.Answer.TheVariants.{Edited, Drawn, Returned, OutOfTurn}
use Rattle.ledger.specs.Answers.{load_answer, put_answer, strike_answer, draw_answer, left, told}

-- A file with its three trees, or a round: the trees that it was drawn from, and what the draw came to.
pub data State : Type 0 where
  file : Outcome → State
  drawn : Outcome → Result Outcome Refusal → State

-- The trees that a file or a round holds.
abbrev pub held : State → Outcome
held (file s) = s
held (drawn s r) = left s r

-- A file as it is made: three missing trees.
abbrev pub start : State
start = file (outcome missing missing missing)

abbrev pub refusal_of : Result Outcome Refusal → Option Refusal
refusal_of (Ok r) = None
refusal_of (Err e) = Some e

-- What stands after one call. A call that does not fit changes nothing.
abbrev pub step : Meaning → ℕ → State → Call → State
step m l (file s) (Load archive field bench) = file (left s (load_answer m l archive.now field.now bench.now))
step m l (file s) (Put side path bytes) = file (left s (put_answer m l s side path.now bytes.now))
step m l (file s) (Strike side path) = file (left s (strike_answer m s side path.now))
step m l (file s) Draw = drawn s (draw_answer m l s)
step m l (file s) Adopt = file s
step m l (file s) Drop = file s
step m l (drawn s r) (Load archive field bench) = drawn s r
step m l (drawn s r) (Put side path bytes) = drawn s r
step m l (drawn s r) (Strike side path) = drawn s r
step m l (drawn s r) Draw = drawn s r
step m l (drawn s r) Adopt = file (left s r)
step m l (drawn s r) Drop = file s

abbrev pub answer : Meaning → ℕ → State → Call → Answer
answer m l (file s) (Load archive field bench) = Edited (told (load_answer m l archive.now field.now bench.now))
answer m l (file s) (Put side path bytes) = Edited (told (put_answer m l s side path.now bytes.now))
answer m l (file s) (Strike side path) = Edited (told (strike_answer m s side path.now))
answer m l (file s) Draw = Drawn (refusal_of (draw_answer m l s)) (marks (left s (draw_answer m l s)).archive)
answer m l (file s) Adopt = OutOfTurn
answer m l (file s) Drop = OutOfTurn
answer m l (drawn s r) (Load archive field bench) = OutOfTurn
answer m l (drawn s r) (Put side path bytes) = OutOfTurn
answer m l (drawn s r) (Strike side path) = OutOfTurn
answer m l (drawn s r) Draw = OutOfTurn
answer m l (drawn s r) Adopt = Returned
answer m l (drawn s r) Drop = Returned

-- The refusal of a load, a put or a strike.
abbrev pub refused_in : Answer → Option Refusal
refused_in (Edited (Ok u)) = None
refused_in (Edited (Err e)) = Some e
refused_in (Drawn r n) = None
refused_in Returned = None
refused_in OutOfTurn = None

-- What stands after a list of calls, and their answers.
abbrev pub stands : Meaning → ℕ → State → List Call → State
stands m l s [] = s
stands m l s (c ∷ cs) = stands m l (step m l s c) cs

abbrev pub answers : Meaning → ℕ → State → List Call → List Answer
answers m l s [] = []
answers m l s (c ∷ cs) = answer m l s c ∷ answers m l (step m l s c) cs
