use Rattle.std.proofs.Common.{◌≡◌, ◌+◌, ◌≤◌, List, length}
use Rattle.model.specs.Trees.{Tree}
use Rattle.records.specs.declared.Entry.{Entry}
use Rattle.records.specs.Bytes.{entries_of}
use Rattle.obeying.specs.Heading.{Heads}
use Rattle.obeying.proofs.Walking.{below, Stage}
use Rattle.obeying.proofs.Test.+node.Given as goal

abbrev pub decreases-node : goal.decreases-node
decreases-node g l = length l.rest.now.now

abbrev pub invariant-loop-i : goal.invariant-loop-i
invariant-loop-i g l =
    (length l.rest.now + l.i ≤ length l.fn.rest.now)
    × ((e : Entry) (t : Tree) (more : List Entry) → Heads e (entries_of l.fn.rest.now) t more → e.children ≡ l.children → Stage (g.R.Rulebook.meaning l.self.rules.now) l.class l.self.count (below t) more l.at l.i l.own l.fault l.rest.now l.last)
