use Rattle.std.proofs.Common.{refl, subst, ◌∙◌, arith}
use Rattle.model.specs.Trees.{missing, mark}
use Rattle.model.specs.Round.{outcome}
use Rattle.stored.proofs.Places.{nodes_some}
use Rattle.area.specs.Views.{view}
use Rattle.tables.specs.declared.Table.TheVariants.{Archive, Field, Bench}
use Rattle.area.specs.declared.regions.Region.TheVariants.{New}
use Rattle.merging.specs.Tables.{gone, tree_of, trees}
use Rattle.tables.specs.Pick.{pick}
use Rattle.merging.specs.Outputs.{Grown}
use Rattle.merging.proofs.Finding.{carried, stood, at_named}
use Rattle.merging.proofs.Writing.{by_table}
use Rattle.merging.proofs.closing.roll_back.Goals as goal

pub at-requires : goal.at-requires
at-requires c = (_, carried c.part.ensures.words (stood c.requires.3 refl).here)

pub settle-requires : goal.settle-requires
settle-requires c =
    let p = c.requires in
    let f = stood p.3 refl in
    let e = c.name.ensures ∙ c.at.ensures.name _ (carried c.part.ensures.words f.here) in
    let l = nodes_some p.1 f.is_present in (
      trees missing p.1 p.2,
      by_table _ (gone refl) (at_named e p.3) (at_named e p.4),
      by_table _ (omega (arith, p.5 Archive)) (omega (arith, p.5 Field)) (omega (arith, p.5 Bench)),
    )

pub returns : goal.returns
returns c =
    record {
      grows = λ k a b ha hb t.
          let e = c.name.ensures ∙ c.at.ensures.name _ (carried c.part.ensures.words (stood ha refl).here) in
          let x = view c.args.area.now (New t) in
          let y = view c.settle.new.area (New t) in
          subst (λ n. Grown x y (pick t c.args.frame.new) (pick t c.settle.result) n (tree_of t (outcome mark a b))) e
          (c.settle.ensures.grows (trees missing a b) (by_table _ (gone refl) (at_named e ha) (at_named e hb)) t);
      only = c.settle.ensures.only;
    }
