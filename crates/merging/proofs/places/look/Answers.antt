use Rattle.tables.specs.declared.Table.TheVariants.{Archive, Field, Bench}
use Rattle.merging.proofs.Writing.{by_table}
use Rattle.merging.proofs.places.look.Goals as goal

pub lookup-requires : goal.lookup-requires
lookup-requires c = (_, c.requires.1 Archive)

pub lookup-requires-2 : goal.lookup-requires-2
lookup-requires-2 c = (_, c.requires.1 Field)

pub lookup-requires-3 : goal.lookup-requires-3
lookup-requires-3 c = (_, c.requires.1 Bench)

pub returns : goal.returns
returns c left h a =
    record {
      least = c.next_name-name.ensures left h;
      seen =
          by_table _ (c.lookup.ensures _ (h Archive) (a Archive)) (c.lookup-2.ensures _ (h Field) (a Field))
          (c.lookup-3.ensures _ (h Bench) (a Bench));
    }
