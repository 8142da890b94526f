use Rattle.std.proofs.Common.{[]}
use Rattle.std.specs.Iterator.Adapters.{enumerate_source, enumerate_count}
use Rattle.stored.specs.Nodes.{every, tree_held, nodes_left}
use Rattle.transfer.proofs.Writing.{Wrote}
use Rattle.transfer.proofs.put_records.Given as goal

abbrev pub invariant-loop-i : goal.invariant-loop-i
invariant-loop-i l =
    Wrote (every 0 (tree_held l.fn.tree) []) (enumerate_count l.i-iterator) (nodes_left (enumerate_source l.i-iterator)) l.initial.out l.out
