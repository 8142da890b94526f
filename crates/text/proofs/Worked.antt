-- By computing.
use Rattle.std.proofs.Common.{refl}
use Rattle.std.specs.Fmt.{digits}
use Rattle.text.specs.Worked.{WorkedTexts}

pub worked_texts : WorkedTexts
unfolding digits
worked_texts =
    record { nothing = refl; a_mark = refl; bare_root = refl; names = refl; marked = refl; first_refusal = refl; last_refusal = refl }
