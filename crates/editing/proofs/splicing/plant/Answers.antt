use Rattle.std.proofs.Common.{◌*◌, take, set, ap, ◌∙◌, arith}
use Rattle.area.specs.Views.{view}
use Rattle.area.specs.declared.regions.Region.TheVariants.{New}
use Rattle.area.proofs.Laws.{again, view_length, limit_small}
use Rattle.editing.proofs.Grafts.{offer_long, planted, nothing_planted}
use Rattle.editing.proofs.splicing.plant.Goals as goal

pub overflow_mul-at : goal.overflow_mul-at
overflow_mul-at c = omega (arith, c.requires.room, limit_small c.args.area.now)

pub overflow_mul-grown : goal.overflow_mul-grown
overflow_mul-grown c = omega (arith, c.requires.room, limit_small c.args.area.now)

pub copy-requires : goal.copy-requires
copy-requires c =
    let a = c.args.area.now in
    record {
      source = omega (arith, offer_long c.requires.offer.1, view_length a c.args.source);
      target = omega (arith, c.requires.room);
    }

pub overflow_mul-at-then-grown-gt0 : goal.overflow_mul-at-then-grown-gt0
overflow_mul-at-then-grown-gt0 c = omega (arith, c.requires.room, limit_small c.args.area.now)

pub set-requires : goal.set-requires
set-requires c = omega (arith, c.requires.room, c.copy.ensures.only.same_limit)

pub returns-then-grown-gt0 : goal.returns-then-grown-gt0
returns-then-grown-gt0 c =
    let a = c.args.area.now in
    let new = New c.args.table in
    record {
      words = λ u o.
          ap (take _) (c.set.ensures.here ∙ ap (λ xs. set xs (3 * c.args.at) c.args.name) c.copy.ensures.here)
          ∙ planted (view a new) c.args.at c.args.name o (omega (arith, c.requires.room, view_length a new)) c.if-grown-gt0.true;
      only = again c.copy.ensures.only c.set.ensures.only;
    }

pub returns-else-grown-gt0 : goal.returns-else-grown-gt0
returns-else-grown-gt0 c =
    let a = c.args.area.now in
    let new = New c.args.table in
    record {
      words = λ u o.
          ap (take _) c.copy.ensures.here
          ∙ nothing_planted (view a new) c.args.at c.args.name o (omega (arith, c.requires.room, view_length a new)) c.if-grown-gt0.false;
      only = c.copy.ensures.only;
    }
