use Rattle.std.proofs.Common.{refl}
use Rattle.tables.specs.declared.Table.TheVariants.{Bench}
use Rattle.area.specs.declared.regions.Region.TheVariants.{New}
use Rattle.area.proofs.Laws.{also}
use Rattle.merging.proofs.Writing.{listing_in}
use Rattle.merging.proofs.Sealing.{first_fails, second_tells}
use Rattle.merging.proofs.closing.both_allowed.Goals as goal

pub names_allowed-requires : goal.names_allowed-requires
names_allowed-requires g c = (_, c.requires.2)

pub names_allowed-requires-2 : goal.names_allowed-requires-2
names_allowed-requires-2 g c = (_, listing_in (c.names_allowed.ensures.only.same (New Bench) refl) c.requires.3)

pub returns-then-not-names_allowed : goal.returns-then-not-names_allowed
returns-then-not-names_allowed g c =
    let d = c.names_allowed.ensures in
    record { answer = λ f h x y. first_fails _ c.if-not-names_allowed.true (d.answer f x); only = d.only }

pub returns : goal.returns
returns g c =
    let d = c.names_allowed.ensures in
    let e = c.names_allowed-2.ensures in
    record {
      answer = λ f h x y. second_tells c.if-not-names_allowed.false (d.answer f x) (e.answer h (listing_in (d.only.same (New Bench) refl) y));
      only = also d.only e.only refl;
    }
