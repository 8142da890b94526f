use Rattle.std.proofs.Common.{sym, ap, ◌∙◌, arith}
use Rattle.records.specs.Bytes.{entry_of}
use Rattle.records.proofs.Chunks.{cut_front}
use Rattle.records.proofs.Siblings.{given_ok}
use Rattle.records.proofs.Views.{located_at}
use Rattle.records.proofs.locate.Goals as goal

pub returns : goal.returns
returns c =
    let p = c.in-Some.ensures.cases in
    given_ok _ _ c.from-tail.result.children (located_at c.args.bytes.now c.args.wanted c.from-tail.result (omega (arith, p.2)) (c.from-tail.ensures ∙ ap entry_of p.1) (sym c.is_sealed.ensures ∙ c.if-not-is_sealed.false)) (c.as_chunks.ensures.front ∙ cut_front c.args.bytes.now _ _ p.0 p.2 (grind (arith, c.if-not-is_sealed.ensures)))
