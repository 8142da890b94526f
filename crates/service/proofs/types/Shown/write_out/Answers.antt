use Rattle.std.proofs.Common.{rules}
use Rattle.stored.proofs.Once.{open_whole}
use Rattle.service.proofs.Files.{shown_kept}
use Rattle.service.proofs.ReadBack.{kept_unmarked, read_back}
use Rattle.service.proofs.types.Shown.write_out.Goals as goal

pub returns : goal.returns
returns c =
    let wrote = c.write.ensures in
    record {
      answer = search rules;
      output = search rules;
      reads_back =
          read_back c.args.table (open_whole c.tree.result.ok) c.tree.ensures (kept_unmarked (shown_kept c.args.self)) c.kind.ensures _ wrote.answer wrote.after;
    }
