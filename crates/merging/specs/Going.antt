-- How a round stands between two turns of its loop.
use Rattle.std.specs.Prelude.{◌≡◌, ℕ, ◌+◌, ◌-◌, ◌*◌, ◌<◌, ◌≤◌, cond, List, [], ◌∷◌, ◌++◌, length, take, drop, Ok, Option}
use Rattle.model.specs.Trees.{Tree, node, names, Ascends, present, nodes}
use Rattle.model.specs.Meaning.{Meaning, ObeyAll}
use Rattle.model.specs.Round.{Outcome}
use Rattle.stored.specs.Words.{emits}
use Rattle.stored.specs.Lookup.{at_of}
use Rattle.area.specs.Views.{view, limit}
use Rattle.area.specs.declared.types.Area.{Area}
use Rattle.tables.specs.declared.Table.{Table}
use Rattle.tables.specs.declared.Table.TheVariants.{Field, Bench}
use Rattle.area.specs.declared.regions.Region.TheVariants.{New, Stack}
use Rattle.merging.specs.Tables.{Sizes}
use Rattle.merging.specs.declared.types.Here.{Here}
use Rattle.merging.specs.declared.types.Frame.{Frame}
use Rattle.merging.specs.declared.types.Walk.{Walk}
use Rattle.merging.specs.Held.{Merged}
use Rattle.merging.specs.Tables.{At, spot, sources}
use Rattle.tables.specs.Pick.{pick, each}
use Rattle.merging.specs.Looking.{Finds, Lies}
use Rattle.merging.specs.Frames.{frame_words}
use Rattle.merging.specs.Outputs.{Opened, Listed}
use Rattle.merging.specs.Levels.{Level, framed, answer}

-- The frames of all levels, the top first.
abbrev pub piled : List Level → List ℕ
piled [] = []
piled (lv ∷ ls) = frame_words lv.frame ++ piled ls

-- The nodes that are open in a new region, each with the children that are done.
abbrev pub lines : Table → List Level → List ℕ
lines t [] = []
lines t (lv ∷ ls) = lines t ls ++ (lv.name ∷ 0 ∷ 0 ∷ emits (lv.done t) [])

-- Each stands where its frame says.
abbrev pub Places : Table → List Level → Type 0
Places t [] = Unit {0}
Places t (lv ∷ ls) = (length (lines t ls) ≡ 3 * pick t lv.frame.new) × Places t ls

-- The first `to` nodes of a new region.
pub record Out (t : Table) (out : List ℕ) (to : ℕ) (levels : List Level) : Type 0 where
  pub words : take (3 * to) out ≡ lines t levels
  pub places : Places t levels
  pub room : 3 * to ≤ length out

-- What a level rests on: its copies, and what is left of its children behind the first `at` nodes.
pub record Rests (m : Meaning) (source : Table → List ℕ) (lv : Level) (at : Sizes) : Type 0 where
  pub lies : Lies source at lv.frame.ends lv.left
  pub ascend : (t : Table) → Ascends (names (lv.left t))
  pub field_obeys : ObeyAll m lv.frame.class (lv.left Field)
  pub bench_obeys : ObeyAll m lv.frame.class (lv.left Bench)
  pub field_here : At (source Field) lv.name (Ok lv.frame.field) (node lv.one)
  pub bench_here : At (source Bench) lv.name (Ok lv.frame.bench) (node lv.two)
  pub field_ends : lv.frame.ends.field ≡ lv.frame.field + nodes (node lv.one)
  pub bench_ends : lv.frame.ends.bench ≡ lv.frame.bench + nodes (node lv.two)
  pub used : (t : Table) → pick t lv.frame.new ≤ lv.frame.field + lv.frame.bench
  pub low : lv.frame.ends.archive ≤ 4096
  pub listed : (t : Table) → Listed (lv.done t)

-- A level goes on where the one above it ends.
abbrev pub RestsAll : Meaning → (Table → List ℕ) → List Level → Sizes → Type 0
RestsAll m source [] at = Unit {0}
RestsAll m source (lv ∷ ls) at = Rests m source lv at × RestsAll m source ls lv.frame.ends

-- The root has the name 0.
abbrev pub Bottom : Level → List Level → Type 0
Bottom lv [] = lv.name ≡ 0
Bottom lv (up ∷ ls) = Bottom up ls

-- A level is open. No more nodes are written than were passed in both copies, and no more frames are on the stack than nodes were passed in the
-- field copy, so that there is room for all of them.
pub record Going (m : Meaning) (target : Outcome) (area : Area) (w : Walk) (lv : Level) (ls : List Level) : Type 0 where
  pub pile : drop w.top (view area Stack) ≡ piled (lv ∷ ls)
  pub rests : RestsAll m (sources area) (lv ∷ ls) w.at
  pub outs : (t : Table) → Out t (view area (New t)) (pick t w.new) (lv ∷ ls)
  pub used : (t : Table) → pick t w.new ≤ w.at.field + w.at.bench
  pub deep : limit area * 16 ≤ w.top + 10 * w.at.field
  pub bottom : Bottom lv ls
  pub answers : answer m lv ls ≡ target

-- There are such levels.
abbrev pub Busy : Meaning → Outcome → Area → Walk → Type 0
Busy m target area w = (lv : Level) × (ls : List Level) × Going m target area w lv ls

-- The same, where f is the frame on top of the stack.
abbrev pub Topped : Meaning → Outcome → Area → Walk → Frame → Type 0
Topped m target area w f = (lv : Level) × (ls : List Level) × Going m target area w (framed lv f) ls

-- All levels are closed.
pub record Over (target : Outcome) (area : Area) (w : Walk) : Type 0 where
  pub done : limit area * 16 ≤ w.top
  pub merged : Merged target area w.new

pub data State (m : Meaning) (target : Outcome) (area : Area) (w : Walk) : Type 0 where
  busy : Busy m target area w → State m target area w
  over : Over target area w → State m target area w

-- What is left to do: every turn passes a node or closes a level.
abbrev pub work : Area → Walk → ℕ
work area w = 11 * (limit area * 2) + limit area * 16 - (11 * (w.at.field + w.at.bench) + w.top)

-- What the closing of a level is given.
pub record Closing (area : Area) (f : Frame) (new : Sizes) (lv : Level) : Type 0 where
  pub opened : (t : Table) → Opened (view area (New t)) (pick t f.new) (pick t new) lv.name (lv.done t)
  pub listed : (t : Table) → Listed (lv.done t)
  pub field_here : At (sources area Field) lv.name (Ok f.field) (node lv.one)
  pub bench_here : At (sources area Bench) lv.name (Ok f.bench) (node lv.two)
  pub room : (t : Table) → pick t f.new + (nodes (node lv.one) + nodes (node lv.two)) ≤ limit area * 2

-- A tree's own node.
abbrev pub own : Tree → ℕ
own t = cond (present t) 1 0

-- The frame of a place whose children are to be merged.
abbrev pub frame_for : Option ℕ → Here → (Table → Tree) → Sizes → Frame
frame_for c h ts new =
    record { class = c; ends = each (λ t. at_of (spot t h) + nodes (ts t)); field = at_of h.places.field; bench = at_of h.places.bench; new = new }

-- What the opening of a level is given.
pub record Opening (area : Area) (h : Here) (w : Walk) (ts : Table → Tree) : Type 0 where
  pub finds : Finds area h ts
  pub deep : 10 ≤ w.top
  pub within : w.top ≤ limit area * 16
  pub room : (t : Table) → pick t w.new < limit area * 2
  pub low : (t : Table) → at_of (spot t h) + nodes (ts t) ≤ 4096

-- A level was opened: its frame is on the stack, and its node in each new region is open.
pub record Opens (before after : Area) (c : Option ℕ) (h : Here) (ts : Table → Tree) (w r : Walk) : Type 0 where
  pub top : r.top + 10 ≡ w.top
  pub pile : drop r.top (view after Stack) ≡ frame_words (frame_for c h ts w.new) ++ drop w.top (view before Stack)
  pub at : r.at ≡ each (λ t. at_of (spot t h) + own (ts t))
  pub new : (t : Table) → pick t r.new ≡ pick t w.new + 1
  pub words :
      (t : Table)
      → take (3 * pick t r.new) (view after (New t)) ≡ take (3 * pick t w.new) (view before (New t)) ++ h.name ∷ 0 ∷ 0 ∷ []
