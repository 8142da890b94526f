-- Siblings, split at a name.
use Rattle.std.specs.Prelude.{◌≡◌, ℕ, ◌+◌, cond, ◌==◌, nat_lt}
use Rattle.model.specs.Trees.{Tree, Forest, empty, child, find, nodes, nodes_all}
use Rattle.stored.specs.Words.{below}
use Rattle.stored.specs.Lookup.{smaller}
use Rattle.editing.specs.declared.reading.Parts.{Parts}

-- The trees from the first name on that is above k, where names ascend.
abbrev pub larger : ℕ → Forest → Forest
larger k empty = empty
larger k (child n t f) = cond (nat_lt n k) (larger k f) (cond (n == k) f (child n t f))

-- The parts of the children of a tree that stands at `at`.
pub record Splits (at k : ℕ) (t : Tree) (r : Parts) : Type 0 where
  pub up_to : r.up_to ≡ at + 1 + nodes_all (smaller k (below t))
  pub from_on : r.from_on ≡ r.up_to + nodes (find (below t) k)
  pub end : r.end ≡ at + nodes t
