-- A node on top of a stack that grows downwards: the number of its class, and where its tree ends.
use Rattle.std.specs.Prelude.{◌≡◌, ℕ, ◌+◌, List, ◌∷◌, drop, Some, Option}

pub record Opened (before after : List ℕ) (top new : ℕ) (class : Option ℕ) (end : ℕ) : Type 0 where
  pub number : ℕ
  pub class_is : class ≡ Some number
  pub lower : new + 2 ≡ top
  pub words : drop new after ≡ number ∷ end ∷ drop top before
