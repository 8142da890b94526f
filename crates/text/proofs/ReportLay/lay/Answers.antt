use Rattle.std.proofs.Common.{codes, arith}
use Rattle.stored.proofs.Once.{open_whole}
use Rattle.text.proofs.Laying.{then, fielded}
use Rattle.text.proofs.Texts.{report_short}
use Rattle.text.proofs.ReportLay.lay.Goals as goal

pub returns : goal.returns
returns c =
    let r = c.args.self.now in
    record {
      laid =
          then (then (fielded (codes "marks ") c.mark_count.ensures c.put_field.ensures) c.end_line.ensures)
          (then c.put_labelled.ensures
          (then c.put_labelled-2.ensures
          c.put_labelled-3.ensures));
      short =
          report_short (open_whole r.archive.ok) (open_whole r.field.ok) (open_whole r.bench.ok) (omega (arith, c.mark_count.ensures));
    }
