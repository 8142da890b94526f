-- Eight worked rounds under plate, each with the outcome that it must come to.
use Rattle.std.specs.Prelude.{◌≡◌, ℕ, List, [], ◌∷◌, Some}
use Rattle.model.specs.Trees.{Tree, missing, mark, node, Forest, empty, child}
use Rattle.model.specs.Round.{Outcome, outcome, round}
use Rattle.model.specs.Rulebooks.{plate_meaning}
use Rattle.model.specs.Safety.{Ready}

-- {} and {5,6}
abbrev pub leaf : Tree
leaf = node empty

abbrev pub leaves : List ℕ → Forest
leaves [] = empty
leaves (k ∷ ks) = child k leaf (leaves ks)

abbrev pub columns : List ℕ → Tree
columns ks = node (leaves ks)

-- A panel of serial 9001, with these rows in its map: {1:{9001},2:{..}}
abbrev pub panel : Forest → Tree
panel rows = node (child 1 (columns (9001 ∷ [])) (child 2 (node rows) empty))

-- Three trees before a round, and what it makes of them.
pub record Worked : Type 0 where
  pub archive : Tree
  pub field : Tree
  pub bench : Tree
  pub comes_to : Outcome

abbrev pub worked : Tree → Tree → Tree → Outcome → Worked
worked o a b r = record { archive = o; field = a; bench = b; comes_to = r }

abbrev pub everywhere : Tree → Outcome
everywhere t = outcome t t t

abbrev pub row_7 : List ℕ → Forest
row_7 ks = child 7 (columns ks) empty

abbrev pub worked_rounds : List Worked
worked_rounds =
    -- each side adds a pixel
    worked (panel (row_7 (5 ∷ []))) (panel (row_7 (5 ∷ 6 ∷ []))) (panel (child 7 (columns (5 ∷ [])) (child 8 (columns (1 ∷ [])) empty)))
    (everywhere (panel (child 7 (columns (5 ∷ 6 ∷ [])) (child 8 (columns (1 ∷ [])) empty))))
    -- both additions together would be four in a row
    ∷ worked (panel (row_7 (10 ∷ 11 ∷ []))) (panel (row_7 (10 ∷ 11 ∷ 12 ∷ []))) (panel (row_7 (9 ∷ 10 ∷ 11 ∷ [])))
    (outcome (panel (child 7 mark empty)) (panel (row_7 (10 ∷ 11 ∷ 12 ∷ []))) (panel (row_7 (9 ∷ 10 ∷ 11 ∷ []))))
    -- both removals together would leave an empty row
    ∷ worked (panel (row_7 (5 ∷ 6 ∷ []))) (panel (row_7 (6 ∷ []))) (panel (row_7 (5 ∷ [])))
    (outcome (panel (child 7 mark empty)) (panel (row_7 (6 ∷ []))) (panel (row_7 (5 ∷ []))))
    -- one side removes a row that the other edits
    ∷ worked (panel (row_7 (5 ∷ []))) (panel empty) (panel (row_7 (5 ∷ 6 ∷ [])))
    (outcome (panel (child 7 mark empty)) (panel empty) (panel (row_7 (5 ∷ 6 ∷ []))))
    -- no archive yet
    ∷ worked missing (panel (row_7 (5 ∷ []))) (panel (row_7 (6 ∷ []))) (everywhere (panel (row_7 (5 ∷ 6 ∷ []))))
    -- a mark is lifted once the copies are equal
    ∷ worked mark (panel empty) (panel empty) (everywhere (panel empty))
    -- one side removes the whole record, the other leaves it alone
    ∷ worked (panel (row_7 (5 ∷ []))) missing (panel (row_7 (5 ∷ []))) (everywhere missing)
    -- a mark is not the same as nothing
    ∷ worked (panel (child 7 mark empty)) (panel (row_7 (5 ∷ []))) (panel empty)
    (outcome (panel (child 7 mark empty)) (panel (row_7 (5 ∷ []))) (panel empty))
    ∷ []

abbrev pub Each : List Worked → Type 0
Each [] = Unit {0}
Each (c ∷ cs) = (round plate_meaning c.archive c.field c.bench ≡ c.comes_to) × Each cs

abbrev pub WorkedRoundsComeOut : Type 0
WorkedRoundsComeOut = Each worked_rounds

-- The other theorems speak of each of these rounds: its trees are well formed and its copies obey.
abbrev pub AllReady : List Worked → Type 0
AllReady [] = Unit {0}
AllReady (c ∷ cs) = Ready plate_meaning (Some 0) c.archive c.field c.bench × AllReady cs

abbrev pub WorkedRoundsAreReady : Type 0
WorkedRoundsAreReady = AllReady worked_rounds
