-- A file in bytes: the copy {5}.
use Rattle.std.specs.Prelude.{◌≡◌, [], ◌∷◌}
use Rattle.model.specs.Trees.{node, empty, child}
use Rattle.records.specs.Writing.{written}
use Rattle.records.specs.declared.TreeKind.TheVariants.{Copy}

abbrev pub WorkedFile : Type 0
WorkedFile =
    written (node (child 5 (node empty) empty)) Copy
    ≡ 0x00 ∷ 0x00 ∷ 0x00 ∷ 0x00 ∷ 0x00 ∷ 0x01 ∷ 0x00 ∷ 0x00
    ∷ 0x00 ∷ 0x00 ∷ 0x00 ∷ 0x05 ∷ 0x00 ∷ 0x00 ∷ 0x00 ∷ 0x00
    ∷ 0x00 ∷ 0x00 ∷ 0x00 ∷ 0x18 ∷ 0x00 ∷ 0x02 ∷ 0x01 ∷ 0x01 ∷ []
