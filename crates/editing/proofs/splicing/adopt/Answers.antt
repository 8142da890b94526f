use Rattle.std.proofs.Common.{◌*◌, take, ap, ◌∙◌, arith}
use Rattle.area.specs.Views.{view}
use Rattle.area.specs.declared.regions.Region.TheVariants.{Tree, New}
use Rattle.area.proofs.Laws.{view_length, limit_small, paste_front}
use Rattle.editing.proofs.Grafts.{held_words, held_from}
use Rattle.editing.proofs.splicing.adopt.Goals as goal

pub overflow_mul-count : goal.overflow_mul-count
overflow_mul-count c = omega (arith, c.requires, limit_small c.args.area.now)

pub returns : goal.returns
returns c =
    let a = c.args.area.now in
    let n = c.args.count in
    let tree = Tree c.args.table in
    let new = New c.args.table in
    let e = ap (take (3 * n)) c.copy.ensures.here ∙ paste_front (view a tree) (view a new) (3 * n) (omega (arith, view_length a new)) in
    record {
      words = e;
      held = λ t h. held_from (view c.copy.new.self tree) n t (e ∙ held_words h) h.begins.well_formed h.count h.few h.shallow;
      only = c.copy.ensures.only;
    }
