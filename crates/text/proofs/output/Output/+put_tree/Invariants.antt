use Rattle.std.specs.Iterator.Adapters.{enumerate_source, enumerate_count}
use Rattle.std.proofs.Common.{◌-◌}
use Rattle.stored.specs.Nodes.{tree_of, siblings_left}
use Rattle.text.proofs.Texts.{Going}
use Rattle.text.proofs.output.Output.+put_tree.Given as goal

abbrev pub decreases-put_tree : goal.decreases-put_tree
decreases-put_tree l = 32 - l.depth

abbrev pub invariant-loop-i : goal.invariant-loop-i
invariant-loop-i l =
    Going (tree_of l.fn.tree) l.initial.self (enumerate_count l.i-iterator) (siblings_left (enumerate_source l.i-iterator)) l.self
