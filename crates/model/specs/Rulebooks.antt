-- What the two rulebooks mean.
use Rattle.std.specs.Prelude.{ℕ, ◌+◌, Bool, true, false, cond, not, ◌&&◌, ◌||◌, List, [], ◌∷◌, length, Some, None, Option, ◌==◌, nat_le, nat_lt}
use Rattle.model.specs.Meaning.{Meaning, most_names}

-- Whether each name is above the one before it.
abbrev pub ascending : List ℕ → Bool
ascending [] = true
ascending (k ∷ []) = true
ascending (k ∷ n ∷ ns) = nat_lt k n && ascending (n ∷ ns)

-- Whether no name is above n.
abbrev pub up_to : ℕ → List ℕ → Bool
up_to n [] = true
up_to n (k ∷ ks) = nat_le k n && up_to n ks

-- Whether some name of an ascending list begins four consecutive numbers.
abbrev pub four_consecutive : List ℕ → Bool
four_consecutive [] = false
four_consecutive (a ∷ []) = false
four_consecutive (a ∷ b ∷ []) = false
four_consecutive (a ∷ b ∷ c ∷ []) = false
four_consecutive (a ∷ b ∷ c ∷ d ∷ ns) =
    (b == a + 1 && c == a + 2 && d == a + 3) || four_consecutive (b ∷ c ∷ d ∷ ns)

-- Open: one class that allows every set of names, and has itself under every name.
abbrev pub open_meaning : Meaning
open_meaning =
    record {
      classes = 1;
      allows = λ c ks. (c == 0) && ascending ks && nat_le (length ks) most_names;
      under = λ c k. cond (c == 0) (Some 0) None;
    }

-- Plate: the limits of a panel's map of dead pixels.
abbrev pub most_rows : ℕ
most_rows = 512

abbrev pub most_columns : ℕ
most_columns = 16

-- The highest number of a row or of a column.
abbrev pub last_line : ℕ
last_line = 4095

-- Class 0, a panel: serial (1) and map (2), and perhaps an exposure (3).
abbrev pub panel_allowed : List ℕ → Bool
panel_allowed [] = false
panel_allowed (a ∷ []) = false
panel_allowed (a ∷ b ∷ []) = a == 1 && b == 2
panel_allowed (a ∷ b ∷ c ∷ []) = a == 1 && b == 2 && c == 3
panel_allowed (a ∷ b ∷ c ∷ d ∷ ns) = false

-- Class 2, the rows that have dead pixels.
abbrev pub rows_allowed : List ℕ → Bool
rows_allowed ks = ascending ks && nat_le (length ks) most_rows && up_to last_line ks

-- Class 3, the dead columns of a row.
abbrev pub columns_allowed : List ℕ → Bool
columns_allowed ks =
    ascending ks && nat_le 1 (length ks) && nat_le (length ks) most_columns && up_to last_line ks && not (four_consecutive ks)

-- Class 1 is a value, which is one name, and class 4 has no names.
abbrev pub plate_allows : ℕ → List ℕ → Bool
plate_allows c ks =
    cond (c == 0) (panel_allowed ks)
    (cond (c == 1) (length ks == 1)
    (cond (c == 2) (rows_allowed ks)
    (cond (c == 3) (columns_allowed ks)
    (cond (c == 4) (length ks == 0) false))))

abbrev pub plate_under : ℕ → ℕ → Option ℕ
plate_under c k =
    cond (c == 0) (cond (k == 1 || k == 3) (Some 1) (cond (k == 2) (Some 2) None))
    (cond (c == 1) (Some 4)
    (cond (c == 2) (cond (nat_le k last_line) (Some 3) None)
    (cond (c == 3) (cond (nat_le k last_line) (Some 4) None) None)))

abbrev pub plate_meaning : Meaning
plate_meaning = record { classes = 5; allows = plate_allows; under = plate_under }
