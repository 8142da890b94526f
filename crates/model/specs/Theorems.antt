-- The theorems of the round, for the meaning of every rulebook.
use Rattle.std.specs.Prelude.{◌≡◌, ℕ, ◌+◌, ◌≤◌, max, Bool, true, false, T, ◌⊎◌, ◌↔◌, List, Some, Option}
use Rattle.model.specs.Trees.{Tree, missing, mark, kid, names_of, Among, Ascends, is_tree, Path, at, Equal, WellFormed, is_mark, nodes, marks, depth, Named, same}
use Rattle.model.specs.Meaning.{Meaning, class_under, Obeys}
use Rattle.model.specs.Round.{Outcome, settled, below, first_five, put_together, steps, round}
use Rattle.model.specs.Safety.{Ready, field_next, bench_next, AtOrBelowConflict, Safe, DoesAsMuch}

-- Well-formed trees are equal exactly if they are one tree, and `same` decides it.
abbrev pub EqualTreesAreOne : Type 0
EqualTreesAreOne = (s t : Tree) → WellFormed s → WellFormed t → ((same s t ≡ true) ↔ Equal s t) × ((s ≡ t) ↔ Equal s t)

-- A list of next names is ascending, and a name is in it for one of three reasons.
pub record NextAre (o x y : Tree) (ks : List ℕ) : Type 0 where
  pub ascend : Ascends ks
  pub among :
      (k : ℕ)
      → Among k ks
      ↔ ((Among k (names_of x) × (¬ Equal (kid x k) (kid o k)))
      ⊎ ((Among k (names_of y) × (kid o k ≡ missing)) ⊎ (Among k (names_of x) × Among k (names_of y))))

abbrev pub NextNamesAsTold : Type 0
NextNamesAsTold =
    (o a b : Tree)
    → WellFormed o
    → WellFormed a
    → WellFormed b
    → T (is_tree a)
    → T (is_tree b)
    → NextAre o a b (field_next o a b) × NextAre o b a (bench_next o a b)

-- The round is the six steps: the first five, else the rounds under all names put together.
abbrev pub StepsAsTold : Type 0
StepsAsTold =
    (m : Meaning) (c : Option ℕ) (o a b : Tree)
    → is_mark a ≡ false
    → ◌≡◌ {A = Outcome} (steps m c o a b)
    (elim (first_five o a b) [
      | settled r ↦ r
      | below ↦ put_together m c a b (λ k. steps m (class_under m c k) (kid o k) (kid a k) (kid b k))
    ])

-- The archive is marked at a path exactly if that path, or one above it, is in conflict.
abbrev pub MarkedExactlyAtConflicts : Type 0
MarkedExactlyAtConflicts =
    (m : Meaning) (o a b : Tree)
    → Ready m (Some 0) o a b
    → (p : Path)
    → (at (round m o a b).archive p ≡ mark) ↔ AtOrBelowConflict m (Some 0) o a b p

abbrev pub OutcomeIsSafe : Type 0
OutcomeIsSafe = (m : Meaning) (o a b : Tree) → Ready m (Some 0) o a b → Safe m o a b (round m o a b)

-- Whatever a rival achieves, the outcome of the round achieves too.
abbrev pub NoRivalDoesMore : Type 0
NoRivalDoesMore = (m : Meaning) (o a b : Tree) → Ready m (Some 0) o a b → (r : Outcome) → Safe m o a b r → DoesAsMuch (round m o a b) r

-- A tree made of two copies: well formed, of no more nodes than both, no deeper than the deeper, and with their names alone.
pub record MadeOf (a b t : Tree) : Type 0 where
  pub well_formed : WellFormed t
  pub small : nodes t ≤ nodes a + nodes b
  pub shallow : depth t ≤ max (depth a) (depth b)
  pub named : (test : ℕ → Bool) → Named test a → Named test b → Named test t

-- A copy that obeys and has no mark.
pub record SoundCopy (m : Meaning) (t : Tree) : Type 0 where
  pub obeys : Obeys m (Some 0) t
  pub unmarked : marks t ≡ 0

pub record WellFormedOutcome (m : Meaning) (a b : Tree) (r : Outcome) : Type 0 where
  pub archive_made : MadeOf a b r.archive
  pub field_made : MadeOf a b r.field
  pub bench_made : MadeOf a b r.bench
  pub field_sound : SoundCopy m r.field
  pub bench_sound : SoundCopy m r.bench

abbrev pub OutcomeIsWellFormed : Type 0
OutcomeIsWellFormed = (m : Meaning) (o a b : Tree) → Ready m (Some 0) o a b → WellFormedOutcome m a b (round m o a b)
