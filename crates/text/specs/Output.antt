-- Bytes in an output.
use Rattle.std.specs.Prelude.{◌≡◌, ℕ, ◌+◌, ◌-◌, ◌^◌, ◌<◌, min, List, [], ◌∷◌, length, slice_set}
use Rattle.text.specs.declared.output.Output.{Output}

-- What an output holds after bytes are laid into it from a place on. Bytes past its end are lost.
abbrev pub laid : List ℕ → ℕ → List ℕ → List ℕ
laid old at [] = old
laid old at (b ∷ bs) = laid (slice_set old at b) (at + 1) bs

-- Bytes were laid into the same output, which then stands behind them, or at the largest number if that is less.
pub record Laid (old : Output) (bs : List ℕ) (new : Output) : Type 0 where
  pub same_output : new.bytes.ghost_name ≡ old.bytes.ghost_name
  pub holds : new.bytes.now ≡ laid old.bytes.now old.at bs
  pub ends : new.at ≡ min (old.at + length bs) (2 ^ 64 - 1)
  pub fits : length new.bytes.now < 2 ^ 64
