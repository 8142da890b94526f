-- What each call makes of the three trees of a file, or why it is refused.
use Rattle.std.specs.Prelude.{ℕ, ◌-◌, Bool, true, cond, not, List, [], ◌∷◌, length, take, Some, Ok, Err, Result, ◌==◌, nat_le, nat_lt, slice_index}
use Rattle.model.specs.Trees.{Tree, missing, present, names_of, insert, select, nodes, at as what_stands_at}
use Rattle.model.specs.Trees as trees
use Rattle.model.specs.Meaning.{Meaning, class_at, allowed}
use Rattle.model.specs.Edits.{reached, set_at}
use Rattle.model.specs.Round.{Outcome, outcome, round}
use Rattle.refusals.specs.declared.Refusal.{Refusal}
use Rattle.refusals.specs.declared.Reason.TheVariants as reason
use Rattle.refusals.specs.declared.Whose.{Whose}
use Rattle.refusals.specs.declared.Whose.TheVariants as whose
use Rattle.refusals.specs.Numbers.{refused}
use Rattle.records.specs.Reading.{says, then, most_deep}
use Rattle.obeying.specs.Lawful.{lawful, copy_of}
use Rattle.tables.specs.declared.Table.{Table}
use Rattle.tables.specs.declared.Table.TheVariants as table
use Rattle.loading.specs.Loads.{within, loaded}
use Rattle.ledger.specs.declared.Side.{Side}
use Rattle.ledger.specs.declared.Side.TheVariants as side

abbrev pub whose_of : Side → Whose
whose_of side.Field = whose.Field
whose_of side.Bench = whose.Bench

abbrev pub table_of : Side → Table
table_of side.Field = table.Field
table_of side.Bench = table.Bench

-- The copy of a side, and the trees with another in its place.
abbrev pub copy : Side → Outcome → Tree
copy side.Field s = s.field
copy side.Bench s = s.bench

abbrev pub with_copy : Side → Tree → Outcome → Outcome
with_copy side.Field t s = outcome s.archive t s.bench
with_copy side.Bench t s = outcome s.archive s.field t

-- Both copies are held to the rulebook, the field's first.
abbrev pub both_obey : Meaning → Outcome → Result Outcome Refusal
both_obey m s =
    then (lawful m (Some 0) whose.Field s.field) (λ a.
    then (lawful m (Some 0) whose.Bench s.bench) (λ b.
    Ok s))

-- All names of a path but the last, and the last.
abbrev pub parent : trees.Path → trees.Path
parent p = take (length p - 1) p

abbrev pub last_name : trees.Path → ℕ
last_name p = slice_index p (length p - 1)

-- A path too long, or one that leads nowhere where something must stand: the refusal tells how many names of the path lead to something.
abbrev pub leads : Whose → Tree → trees.Path → Bool → Result Tree Refusal
leads w t p there =
    cond (nat_lt most_deep (length p)) (Err (refused reason.Path w most_deep))
    (cond there (Ok t) (Err (refused reason.Path w (reached t p))))

-- The parent of the place at the end of a path stands. The empty path leads to the whole tree, which has no parent and needs none.
abbrev pub parent_stands : Tree → trees.Path → Bool
parent_stands t [] = true
parent_stands t (k ∷ p) = present (what_stands_at t (parent (k ∷ p)))

-- The names that the parent will have are allowed.
abbrev pub parent_allows : Meaning → Whose → Tree → trees.Path → (List ℕ → List ℕ) → Result Tree Refusal
parent_allows m w t [] change = Ok t
parent_allows m w t (k ∷ p) change =
    cond (allowed m (class_at m (Some 0) (parent (k ∷ p))) (change (names_of (what_stands_at t (parent (k ∷ p))))))
    (Ok t) (Err (refused reason.Edit w (length (k ∷ p) - 1)))

-- Load: the archive first, then the field copy, then the bench copy.
abbrev pub load_answer : Meaning → ℕ → List ℕ → List ℕ → List ℕ → Result Outcome Refusal
load_answer m l archive field bench = loaded m l archive field bench

-- Put: the copies obey, the path leads to a place, the parent allows the name there, the bytes are a tree that may stand there, and the copy
-- then has no more nodes than the limit.
abbrev pub put_answer : Meaning → ℕ → Outcome → Side → trees.Path → List ℕ → Result Outcome Refusal
put_answer m l s e p bytes =
    let w = whose_of e in
    let t = copy e s in
    then (both_obey m s) (λ _.
    then (leads w t p (parent_stands t p)) (λ _.
    then (parent_allows m w t p (insert (last_name p))) (λ _.
    then (says bytes (copy_of whose.Brought (length p))) (λ brought.
    then (lawful m (class_at m (Some 0) p) whose.Brought brought) (λ u.
    then (within l w (set_at t p u)) (λ new.
    Ok (with_copy e new s)))))))

-- Strike: the copies obey, something stands at the path, and the parent allows the names that are left.
abbrev pub strike_answer : Meaning → Outcome → Side → trees.Path → Result Outcome Refusal
strike_answer m s e p =
    let w = whose_of e in
    let t = copy e s in
    then (both_obey m s) (λ _.
    then (leads w t p (present (what_stands_at t p))) (λ _.
    then (parent_allows m w t p (select (λ n. not (n == last_name p)))) (λ _.
    Ok (with_copy e (set_at t p missing) s))))

-- A tree of an outcome has no more nodes than the limit.
abbrev pub fits : ℕ → Whose → Tree → Result Tree Refusal
fits l w t = cond (nat_le (nodes t) l) (Ok t) (Err (refused reason.Outcome w (nodes t)))

abbrev pub all_fit : ℕ → Outcome → Result Outcome Refusal
all_fit l r =
    then (fits l whose.Archive r.archive) (λ o.
    then (fits l whose.Field r.field) (λ a.
    then (fits l whose.Bench r.bench) (λ b.
    Ok r)))

-- Draw: the copies obey, and the trees of the outcome fit.
abbrev pub draw_answer : Meaning → ℕ → Outcome → Result Outcome Refusal
draw_answer m l s = then (both_obey m s) (λ _. all_fit l (round m s.archive s.field s.bench))

-- What stands after a call: other trees, or those that stood, if it was refused.
abbrev pub left : Outcome → Result Outcome Refusal → Outcome
left s (Ok t) = t
left s (Err e) = s

-- What the call tells.
abbrev pub told : Result Outcome Refusal → Result (Unit {0}) Refusal
told (Ok t) = Ok tt
told (Err e) = Err e
