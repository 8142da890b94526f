-- The round as a walk with a stack of levels: a level is a node that is being put together.
use Rattle.std.specs.Prelude.{ℕ, cond, ◌&&◌, List, [], ◌∷◌, Option}
use Rattle.model.specs.Trees.{mark, node, Forest, empty, find, names, union, add, gather}
use Rattle.model.specs.Meaning.{Meaning, class_under, allowed}
use Rattle.model.specs.Round.{Outcome, outcome, steps}
use Rattle.stored.proofs.Forests.{join}
use Rattle.tables.specs.declared.Table.{Table}
use Rattle.tables.specs.declared.Table.TheVariants.{Archive, Field, Bench}
use Rattle.merging.specs.declared.types.Frame.{Frame}
use Rattle.merging.specs.Tables.{tree_of}

-- The name of the node, what the stack keeps of it, the children of both copies as they came, what is left of the children in each table,
-- and the children that are done.
pub record Level : Type 0 where
  pub name : ℕ
  pub frame : Frame
  pub one : Forest
  pub two : Forest
  pub left : Table → Forest
  pub done : Table → Forest

-- What comes of the children under the name k.
abbrev pub came : Meaning → Option ℕ → (Table → Forest) → ℕ → Outcome
came m c left k = steps m (class_under m c k) (find (left Archive) k) (find (left Field) k) (find (left Bench) k)

abbrev pub ahead : (Table → Forest) → List ℕ
ahead left = union (names (left Field)) (names (left Bench))

abbrev pub coming : Meaning → Option ℕ → (Table → Forest) → Table → Forest
coming m c left t = gather (λ k. tree_of t (came m c left k)) (ahead left)

-- What a node comes to when all its children are done: where the names of a copy are not allowed, the mark, and the copies as they came.
abbrev pub sealed : Meaning → Option ℕ → Forest → Forest → (Table → Forest) → Outcome
sealed m c f g done =
    cond (allowed m c (names (done Field)) && allowed m c (names (done Bench)))
    (outcome (node (done Archive)) (node (done Field)) (node (done Bench))) (outcome mark (node f) (node g))

abbrev pub value : Meaning → Level → Outcome
value m lv =
    sealed m lv.frame.class lv.one lv.two (λ t. join (lv.done t) (coming m lv.frame.class lv.left t))

-- One more child at the end.
abbrev pub more : (Table → Forest) → ℕ → Outcome → Table → Forest
more done k r t = join (done t) (add k (tree_of t r) empty)

abbrev pub gained : Level → (Table → Forest) → (Table → Forest) → Level
gained lv left done = record { name = lv.name; frame = lv.frame; one = lv.one; two = lv.two; left = left; done = done }

abbrev pub framed : Level → Frame → Level
framed lv f = record { name = lv.name; frame = f; one = lv.one; two = lv.two; left = lv.left; done = lv.done }

-- What the levels come to, where r came of the name k that the first of them waits for.
abbrev pub resume : Meaning → List Level → ℕ → Outcome → Outcome
resume m [] k r = r
resume m (lv ∷ ls) k r = resume m ls lv.name (value m (gained lv lv.left (more lv.done k r)))

abbrev pub answer : Meaning → Level → List Level → Outcome
answer m lv ls = resume m ls lv.name (value m lv)

-- The level of a node whose children are all to come.
abbrev pub fresh : ℕ → Frame → Forest → Forest → (Table → Forest) → Level
fresh k f one two left = record { name = k; frame = f; one = one; two = two; left = left; done = λ t. empty }
