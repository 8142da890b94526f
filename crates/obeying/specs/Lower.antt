-- The lower of two numbers that may be there.
use Rattle.std.specs.Prelude.{ℕ, min, cond, List, Some, None, Option}
use Rattle.model.specs.Meaning.{Meaning, allowed}

abbrev pub lower : Option ℕ → Option ℕ → Option ℕ
lower None b = b
lower (Some a) None = Some a
lower (Some a) (Some b) = Some (min a b)

-- The number of a node, if its names are not allowed.
abbrev pub own : Meaning → Option ℕ → ℕ → List ℕ → Option ℕ
own m c n ks = cond (allowed m c ks) None (Some n)
