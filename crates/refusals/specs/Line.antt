-- The line that is told of a refusal.
use Rattle.std.specs.Prelude.{ℕ, List, ◌++◌, codes, decimal}
use Rattle.refusals.specs.declared.Refusal.{Refusal}
use Rattle.refusals.specs.Numbers.{number_of, layer_of, layer_number, whose_number}

-- A refusal: its number, its layer, whose tree it is about, and the place.
abbrev pub line : Refusal → List ℕ
line r =
    (codes "refused " ++ decimal (number_of r.reason))
    ++ ((codes " layer " ++ decimal (layer_number (layer_of r.reason)))
    ++ ((codes " whose " ++ decimal (whose_number r.whose))
    ++ (codes " place " ++ decimal r.place)))

-- With the newline that ends it.
abbrev pub refusal_line : Refusal → List ℕ
refusal_line r = line r ++ codes "\n"
