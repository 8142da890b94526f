-- Edits of a copy as the code takes them.
use Rattle.std.specs.Prelude.{ℕ, ◌+◌, ◌≤◌, not, List, length, Ok, Result, ◌==◌}
use Rattle.model.specs.Trees.{Tree, Path, insert, select, nodes, marks, depth}
use Rattle.model.specs.Edits.{set_at, HasParent}
use Rattle.model.specs.Round.{Outcome}
use Rattle.std.specs.Prelude.{◌≡◌}
use Rattle.refusals.specs.declared.Refusal.{Refusal}
use Rattle.records.specs.Reading.{then}
use Rattle.area.specs.Views.{view}
use Rattle.area.specs.declared.regions.Region.TheVariants.{New}
use Rattle.tables.specs.declared.Table.TheVariants.{Archive}
use Rattle.editing.specs.Splicing.{Offers}
use Rattle.loading.specs.Loads.{within}
use Rattle.ledger.specs.declared.Side.{Side}
use Rattle.ledger.specs.Answers.{whose_of, copy, with_copy}
use Rattle.service.specs.declared.types.File.{File}
use Rattle.service.specs.declared.types.Change.{Change}
use Rattle.service.specs.declared.types.Change.TheVariants.{Put, Strike}
use Rattle.service.specs.Service.{trees, limit}

-- The names of a parent after a child was put or struck under a name.
abbrev pub changed : Change → ℕ → List ℕ → List ℕ
changed Put k ns = insert k ns
changed Strike k ns = select (λ n. not (n == k)) ns

-- The trees with another tree at a path of a side's copy.
abbrev pub edited : Outcome → Side → Path → Tree → Outcome
edited s e p u = with_copy e (set_at (copy e s) p u) s

-- The same, unless the copy would have more nodes than the limit.
abbrev pub replaced : ℕ → Outcome → Side → Path → Tree → Result Outcome Refusal
replaced l s e p u = then (within l (whose_of e) (set_at (copy e s) p u)) (λ new. Ok (with_copy e new s))

-- A tree u waits in the region of the archive's next tree, to be set at a path of a side's copy, and all will fit.
pub record Renews (f : File) (e : Side) (p : Path) (grown : ℕ) (u : Tree) : Type 0 where
  pub offer : Offers (view f.area (New Archive)) grown u
  pub unmarked : marks u ≡ 0
  pub parent : 1 ≤ length p → HasParent (copy e (trees f)) p
  pub few : nodes (set_at (copy e (trees f)) p u) ≤ limit f
  pub shallow : depth (set_at (copy e (trees f)) p u) ≤ 32

-- The same of a tree that is still to be brought there, but for the limit.
pub record Replaces (f : File) (e : Side) (p : Path) (u : Tree) : Type 0 where
  pub unmarked : marks u ≡ 0
  pub parent : 1 ≤ length p → HasParent (copy e (trees f)) p
  pub shallow : length p + depth u ≤ 32
