use Rattle.std.proofs.Common.{◌+◌, ◌*◌, Err, ap, ◌∙◌, arith}
use Rattle.records.specs.Bytes.{entry, version}
use Rattle.stored.specs.Nodes.{tree_held}
use Rattle.stored.proofs.Once.{open_whole}
use Rattle.transfer.proofs.Writing.{size_of, file_written, told_fits, left_fits, told_short, left_short}
use Rattle.transfer.proofs.write.Goals as goal

pub overflow_cast-trailer : goal.overflow_cast-trailer
overflow_cast-trailer c = omega (arith, c.node_count-count.ensures, (open_whole c.args.tree.ok).few)

pub overflow_cast-trailer-2 : goal.overflow_cast-trailer-2
overflow_cast-trailer-2 c = omega (arith, c.node_count-count.ensures, (open_whole c.args.tree.ok).few)

pub returns-then-out-size : goal.returns-then-out-size
returns-then-out-size c =
    let size = size_of (tree_held c.args.tree) c.args.kind c.node_count-count.ensures in
    record {
      answer = ap Err c.refuse.ensures ∙ told_short _ _ _ size c.if-out-size.true;
      after = left_short _ _ _ size c.if-out-size.true;
      narrow = (open_whole c.args.tree.ok).names;
    }

pub returns : goal.returns
returns c =
    let t = tree_held c.args.tree in
    let n = c.node_count-count.ensures in
    let size = size_of t c.args.kind n in
    record {
      answer = told_fits _ _ _ size c.if-out-size.false;
      after =
          left_fits _ _ _ size c.if-out-size.false _
          (file_written t c.args.kind c.node_count-count.result _ c.args.out.now _ _ n
          (ap (λ k. entry (8 * c.node_count-count.result + 8) c.node_count-count.result k version) c.code.ensures) c.put_records.ensures c.put_record.ensures);
      narrow = (open_whole c.args.tree.ok).names;
    }
