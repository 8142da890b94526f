-- A frame as the stack keeps it.
use Rattle.std.specs.Prelude.{ℕ, ◌≤◌, List, [], ◌∷◌, Some, None, Option}
use Rattle.tables.specs.declared.Table.{Table}
use Rattle.merging.specs.declared.types.Frame.{Frame}
use Rattle.tables.specs.Pick.{pick}

-- A class as two words: whether there is one, and its number.
abbrev pub flag : Option ℕ → ℕ
flag None = 0
flag (Some c) = 1

abbrev pub number : Option ℕ → ℕ
number None = 0
number (Some c) = c

abbrev pub frame_words : Frame → List ℕ
frame_words f =
    flag f.class
    ∷ number f.class
    ∷ f.ends.archive
    ∷ f.ends.field
    ∷ f.ends.bench
    ∷ f.field
    ∷ f.bench
    ∷ f.new.archive
    ∷ f.new.field
    ∷ f.new.bench
    ∷ []

-- No number of nodes in a frame is above twice the largest limit.
pub record Low (f : Frame) : Type 0 where
  pub ends_low : (t : Table) → pick t f.ends ≤ 8192
  pub new_low : (t : Table) → pick t f.new ≤ 8192
  pub field_low : f.field ≤ 8192
  pub bench_low : f.bench ≤ 8192
