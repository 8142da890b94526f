-- A copy that is held to a rulebook.
use Rattle.std.specs.Prelude.{ℕ, Some, None, Ok, Err, Option, Result}
use Rattle.model.specs.Trees.{Tree}
use Rattle.model.specs.Meaning.{Meaning}
use Rattle.model.specs.Faults.{first_fault}
use Rattle.refusals.specs.declared.Refusal.{Refusal}
use Rattle.refusals.specs.declared.Reason.TheVariants.{Disobeys}
use Rattle.refusals.specs.declared.Whose.{Whose}
use Rattle.refusals.specs.Numbers.{refused}
pub use Rattle.records.specs.Reading.{copy_of}

abbrev pub faulty : Whose → Tree → Option ℕ → Result Tree Refusal
faulty whose t None = Ok t
faulty whose t (Some n) = Err (refused Disobeys whose n)

-- The tree, or that it does not obey and at which node this shows first.
abbrev pub lawful : Meaning → Option ℕ → Whose → Tree → Result Tree Refusal
lawful m c whose t = faulty whose t (first_fault m c t)
