use Rattle.std.proofs.Common.{sym, ap, ◌∙◌, arith}
use Rattle.area.specs.declared.regions.Region.TheVariants.{New}
use Rattle.area.proofs.Laws.{view_length, same_length}
use Rattle.model.specs.Trees.{nodes}
use Rattle.merging.specs.Steps.{brought}
use Rattle.merging.proofs.Finding.{brought_is}
use Rattle.merging.proofs.Writing.{grown_mark, grown_as}
use Rattle.merging.proofs.outputs.put_settled.Goals as goal

pub returns-in-None : goal.returns-in-None
returns-in-None c =
    let a = c.args.area.now in
    let e = c.put_node.ensures in
    record {
      grows = λ ts h.
          grown_as (grown_mark _ _ c.args.at c.put_node.result c.args.here.name e.end e.words (omega (arith, e.end, view_length a (New c.args.to), same_length e.only (New c.args.to), c.requires.2, ap nodes (ap (λ o. brought o c.requires.0) (sym c.in-None.is ∙ c.source.ensures) ∙ brought_is c.args.step c.args.to c.requires.0))))
          (ap (λ o. brought o ts) (sym c.in-None.is ∙ c.source.ensures) ∙ brought_is c.args.step c.args.to ts);
      only = e.only;
    }
