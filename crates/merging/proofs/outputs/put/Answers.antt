use Rattle.std.proofs.Common.{sym, ap, ◌∙◌, arith}
use Rattle.model.specs.Trees.{nodes}
use Rattle.stored.proofs.Places.{node_at}
use Rattle.area.specs.Views.{view}
use Rattle.area.specs.declared.regions.Region.TheVariants.{Tree as Old, New}
use Rattle.area.proofs.Laws.{view_length, limit_small, same_length}
use Rattle.merging.proofs.Finding.{carried, stood_at, nothing_at}
use Rattle.merging.proofs.Writing.{copied, grown_none, grown_as}
use Rattle.merging.proofs.outputs.put.Goals as goal

pub returns-in_default-clause-grows : goal.returns-in_default-clause-grows
returns-in_default-clause-grows c k t h =
    let a = c.args.area.now in
    grown_as (grown_none (view a (New c.args.to)) c.args.at k (omega (arith, c.requires.3, view_length a (New c.args.to)))) (sym (nothing_at c.in_default.is h))

pub at-requires : goal.at-requires
at-requires c = (_, carried c.part.ensures.words (stood_at c.in-Ok.is c.requires.2).here)

pub overflow_mul-place : goal.overflow_mul-place
overflow_mul-place c =
    let a = c.args.area.now in
    omega (arith, (node_at (stood_at c.in-Ok.is c.requires.2).here).whole, view_length a (Old c.args.from), limit_small a)

pub copy-requires : goal.copy-requires
copy-requires c =
    let a = c.args.area.now in
    let h = (stood_at c.in-Ok.is c.requires.2).here in
    let n = c.node_count-count.ensures ∙ ap nodes (c.at.ensures.tree _ (carried c.part.ensures.words h)) in
    record {
      source = omega (arith, n, (node_at h).whole, view_length a (Old c.args.from));
      target = omega (arith, n, c.requires.3);
    }

pub returns : goal.returns
returns c =
    let a = c.args.area.now in
    let o = (stood_at c.in-Ok.is c.requires.2).here in
    let m = c.node_count-count.ensures ∙ ap nodes (c.at.ensures.tree _ (carried c.part.ensures.words o)) in
    record {
      grows = λ k t h.
          let s = (stood_at c.in-Ok.is h).here in
          let n = c.node_count-count.ensures ∙ ap nodes (c.at.ensures.tree _ (carried c.part.ensures.words s)) in
          copied s n (omega (arith, m, c.requires.3, view_length a (New c.args.to))) (same_length c.copy.ensures.only (New c.args.to)) c.copy.ensures.here;
      only = c.copy.ensures.only;
    }
