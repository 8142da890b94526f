use Rattle.std.proofs.Common.{◌-◌, [], ◌∷◌, drop, refl, ap, ◌∙◌, arith}
use Rattle.area.specs.Views.{view}
use Rattle.tables.specs.declared.Table.TheVariants.{Archive, Field, Bench}
use Rattle.area.specs.declared.regions.Region.TheVariants.{Stack}
use Rattle.area.proofs.Laws.{view_length}
use Rattle.merging.proofs.Stacking.{stacked}
use Rattle.merging.proofs.stack.push.Goals as goal

pub overflow_cast-words : goal.overflow_cast-words
overflow_cast-words c = omega (arith, c.requires.low.ends_low Archive)

pub overflow_cast-words-2 : goal.overflow_cast-words-2
overflow_cast-words-2 c = omega (arith, c.requires.low.ends_low Field)

pub overflow_cast-words-3 : goal.overflow_cast-words-3
overflow_cast-words-3 c = omega (arith, c.requires.low.ends_low Bench)

pub overflow_cast-words-6 : goal.overflow_cast-words-6
overflow_cast-words-6 c = omega (arith, c.requires.low.new_low Archive)

pub overflow_cast-words-7 : goal.overflow_cast-words-7
overflow_cast-words-7 c = omega (arith, c.requires.low.new_low Field)

pub overflow_cast-words-8 : goal.overflow_cast-words-8
overflow_cast-words-8 c = omega (arith, c.requires.low.new_low Bench)

pub returns : goal.returns
returns c =
    let a = c.args.area.now in
    let f = c.args.frame in
    let at = c.args.at in
    let rest = drop at (view a Stack) in
    let ws =
    c.flag.result
    ∷ c.number.result
    ∷ f.ends.archive
    ∷ f.ends.field
    ∷ f.ends.bench
    ∷ f.field
    ∷ f.bench
    ∷ f.new.archive
    ∷ f.new.field
    ∷ f.new.bench
    ∷ []
    in
    record {
      top = omega arith;
      pile =
          ap (drop (at - 10)) c.write.ensures.here
          ∙ stacked (view a Stack) ws at 10 refl c.requires.room (omega (arith, view_length a Stack, c.requires.within))
          ∙ (λ i. c.flag.ensures i
          ∷ c.number.ensures i
          ∷ f.ends.archive
          ∷ f.ends.field
          ∷ f.ends.bench
          ∷ f.field
          ∷ f.bench
          ∷ f.new.archive
          ∷ f.new.field
          ∷ f.new.bench
          ∷ rest);
      only = c.write.ensures.only;
    }
