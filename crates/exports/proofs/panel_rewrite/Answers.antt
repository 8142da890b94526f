use Rattle.std.proofs.Common.{length, ap, ◌∙◌, arith}
use Rattle.refusals.specs.Output.{told, left}
use Rattle.records.specs.declared.TreeKind.TheVariants.{Copy}
use Rattle.records.specs.Writing.{written}
use Rattle.records.specs.Reading.{says}
use Rattle.records.specs.Views.{tree_of}
use Rattle.transfer.proofs.Storing.{held}
use Rattle.exports.specs.Answers.{rewritten_length, rewritten}
use Rattle.exports.proofs.Rewriting.{crowded_length, crowded_output, fits_length, fits_output}
use Rattle.exports.proofs.panel_rewrite.Goals as goal

pub returns-in_default : goal.returns-in_default
returns-in_default c =
    let e = c.in_default.ensures.answer ∙ ap (says c.args.bytes.now) c.copy.ensures in
    record {
      answer = ap (λ x. rewritten_length x (length c.args.words.now) c.args.out.now) e;
      output = ap (λ x. rewritten x (length c.args.words.now) c.args.out.now) e;
    }

pub returns-then-words-count : goal.returns-then-words-count
returns-then-words-count c =
    let e = c.in-Ok.ensures.answer ∙ ap (says c.args.bytes.now) c.copy.ensures in
    record {
      answer = crowded_length _ (length c.args.words.now) c.args.out.now (tree_of c.in-Ok.view) c.count.result e c.count.ensures c.if-words-count.true;
      output = crowded_output _ (length c.args.words.now) c.args.out.now (tree_of c.in-Ok.view) c.count.result e c.count.ensures c.if-words-count.true;
    }

pub store-requires : goal.store-requires
store-requires c = omega (arith, c.count.ensures, c.if-words-count.false)

pub new-tree-requires : goal.new-tree-requires
new-tree-requires c = (tree_of c.in-Ok.view, held c.in-Ok.view _ c.count-2.ensures c.store.ensures)

pub returns : goal.returns
returns c =
    let e = c.in-Ok.ensures.answer ∙ ap (says c.args.bytes.now) c.copy.ensures in
    let same = c.new-tree.ensures _ (held c.in-Ok.view _ c.count-2.ensures c.store.ensures) in
    record {
      answer =
          fits_length _ (length c.args.words.now) c.args.out.now (tree_of c.in-Ok.view) c.count.result e c.count.ensures c.if-words-count.false _ c.write.result c.unwrap_or.ensures
          (c.write.ensures.answer ∙ ap (λ t. told (written t Copy) c.args.out.now) same);
      output =
          fits_output _ (length c.args.words.now) c.args.out.now (tree_of c.in-Ok.view) c.count.result e c.count.ensures c.if-words-count.false _
          (c.write.ensures.after ∙ ap (λ t. left (written t Copy) c.args.out.now) same);
    }
