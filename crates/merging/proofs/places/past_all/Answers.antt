use Rattle.tables.specs.declared.Table.TheVariants.{Archive, Field, Bench}
use Rattle.merging.proofs.places.past_all.Goals as goal

pub past-requires : goal.past-requires
past-requires c = (_, _, c.requires.1 Archive)

pub past-requires-2 : goal.past-requires-2
past-requires-2 c = (_, _, c.requires.1 Field)

pub past-requires-3 : goal.past-requires-3
past-requires-3 c = (_, _, c.requires.1 Bench)
