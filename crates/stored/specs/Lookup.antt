-- A name looked up among siblings, whose names ascend.
use Rattle.std.specs.Prelude.{◌≡◌, ℕ, ◌+◌, Bool, true, false, cond, List, Some, None, Option, Ok, Err, Result, ◌==◌, nat_lt}
use Rattle.model.specs.Trees.{Forest, empty, child, nodes, nodes_all}
use Rattle.stored.specs.Words.{Row}

-- In `ws` the trees of a forest are all that stands from node number `from` up to `end`.
pub record Between (ws : List ℕ) (from end : ℕ) (f : Forest) : Type 0 where
  pub rest : List ℕ
  pub row : Row ws from f rest
  pub ends : end ≡ from + nodes_all f

-- The leading trees whose names are below k.
abbrev pub smaller : ℕ → Forest → Forest
smaller k empty = empty
smaller k (child n t f) = cond (nat_lt n k) (child n t (smaller k f)) empty

-- The trees from the first name on that is not below k.
abbrev pub from_on : ℕ → Forest → Forest
from_on k empty = empty
from_on k (child n t f) = cond (nat_lt n k) (from_on k f) (child n t f)

-- Whether the first name is k.
abbrev pub starts : ℕ → Forest → Bool
starts k empty = false
starts k (child n t f) = n == k

-- Where a lookup stopped: at the name, or else at the first larger one or behind them all.
abbrev pub Spot : Type 0
Spot = Result ℕ ℕ

abbrev pub at_of : Spot → ℕ
at_of (Ok i) = i
at_of (Err i) = i

abbrev pub is_found : Spot → Bool
is_found (Ok i) = true
is_found (Err i) = false

-- The number of the node under the name k, in a forest whose first node has the number `at`.
abbrev pub place : Forest → ℕ → ℕ → Option ℕ
place empty k at = None
place (child n t f) k at = cond (k == n) (Some at) (place f k (at + nodes t))
