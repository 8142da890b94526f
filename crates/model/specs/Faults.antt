-- The first node, in file order, whose names a rulebook does not allow.
use Rattle.std.specs.Prelude.{◌≡◌, ℕ, ◌+◌, cond, ◌↔◌, Some, None, Option}
use Rattle.model.specs.Trees.{Tree, missing, mark, node, Forest, empty, child, names, nodes}
use Rattle.model.specs.Meaning.{Meaning, class_under, allowed, Obeys}

-- The first of two numbers that is there.
abbrev pub or_else : Option ℕ → Option ℕ → Option ℕ
or_else (Some n) o = Some n
or_else None o = o

-- In file order a node comes before its children, and each child with all below it before the next. The node asked about has the number n.
abbrev mutual
  pub fault_from : Meaning → Option ℕ → Tree → ℕ → Option ℕ
  fault_from m c missing n = None
  fault_from m c mark n = Some n
  fault_from m c (node f) n = cond (allowed m c (names f)) (fault_among m c f (n + 1)) (Some n)

  pub fault_among : Meaning → Option ℕ → Forest → ℕ → Option ℕ
  fault_among m c empty n = None
  fault_among m c (child k t rest) n = or_else (fault_from m (class_under m c k) t n) (fault_among m c rest (n + nodes t))

-- The root has the number 0.
abbrev pub first_fault : Meaning → Option ℕ → Tree → Option ℕ
first_fault m c t = fault_from m c t 0

-- A tree has no such node exactly if it obeys.
abbrev pub NoFaultIsObeying : Type 0
NoFaultIsObeying = (m : Meaning) (c : Option ℕ) (t : Tree) → (first_fault m c t ≡ None) ↔ Obeys m c t
