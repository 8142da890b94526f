-- Writing to an output that the caller brings.
use Rattle.std.specs.Prelude.{ℕ, cond, List, ◌++◌, length, drop, Ok, Err, Result, nat_le}
use Rattle.refusals.specs.declared.Refusal.{Refusal}
use Rattle.refusals.specs.declared.Reason.TheVariants.{Output}
use Rattle.refusals.specs.declared.Whose.TheVariants.{Nobody}
use Rattle.refusals.specs.Numbers.{refused}

-- The answer of a call that writes bytes: how many they are, or a refusal if the output is too short for them.
abbrev pub told : List ℕ → List ℕ → Result ℕ Refusal
told bs old = cond (nat_le (length bs) (length old)) (Ok (length bs)) (Err (refused Output Nobody (length bs)))

-- What the output then holds: the bytes, and behind them what it held, or all that it held if it is too short.
abbrev pub left : List ℕ → List ℕ → List ℕ
left bs old = cond (nat_le (length bs) (length old)) (bs ++ drop (length bs) old) old
