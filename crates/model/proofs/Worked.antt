-- The eight cases, by computing.
use Rattle.std.proofs.Common.{refl}
use Rattle.model.specs.Worked.{WorkedRoundsComeOut}

pub worked_rounds_come_out : WorkedRoundsComeOut
worked_rounds_come_out = (refl, (refl, (refl, (refl, (refl, (refl, (refl, (refl, tt))))))))
