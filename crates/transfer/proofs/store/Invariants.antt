use Rattle.std.proofs.Common.{◌≡◌, ◌*◌, ◌≤◌, drop}
use Rattle.model.specs.Trees.{nodes}
use Rattle.records.specs.Views.{tree_of}
use Rattle.stored.specs.Words.{emits}
use Rattle.stored.proofs.Nodes.{from, alone}
use Rattle.transfer.proofs.store.Given as goal

abbrev pub invariant-loop-i : goal.invariant-loop-i
invariant-loop-i l =
    (l.i ≤ nodes (tree_of l.view))
    × (drop (3 * l.i) l.words ≡ emits (from l.i (alone (tree_of l.view))) (drop (3 * nodes (tree_of l.view)) l.initial.words))
