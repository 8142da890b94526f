-- Of three things the one of a table.
use Rattle.tables.specs.declared.Table.{Table}
use Rattle.tables.specs.declared.Table.TheVariants.{Archive, Field, Bench}
use Rattle.tables.specs.declared.Three.{Three}

abbrev pub pick : {A : Type 0} → Table → Three A → A
pick Archive x = x.archive
pick Field x = x.field
pick Bench x = x.bench

-- Three things, each made for its table.
abbrev pub each : {A : Type 0} → (Table → A) → Three A
each f = record { archive = f Archive; field = f Field; bench = f Bench }
