-- Steps of a loop along a row of trees.
use Rattle.std.proofs.Common.{◌≡◌, ℕ, ◌+◌, ◌<◌, ◌≤◌, List, sym, subst, arith}
use Rattle.model.specs.Trees.{Tree, Forest, empty, child, nodes, nodes_all, WellFormedAll}
use Rattle.stored.specs.Words.{below, Stored, Stands, Row}
use Rattle.stored.proofs.Places.{nodes_below, nodes_some, inside, head, first, second}

-- A loop that goes along a row, which ends at node number `end`: `left` is still to come, and `P` is what is known of it.
pub record Along (ws rest : List ℕ) (end pos : ℕ) (P : Forest → Type 0) : Type 0 where
  pub left : Forest
  pub row : Row ws pos left rest
  pub ends : pos + nodes_all left ≡ end
  pub holds : P left

-- Where nodes are left, the row has a first tree.
pub record Ahead (ws rest : List ℕ) (end pos : ℕ) (P : Forest → Type 0) : Type 0 where
  pub name : ℕ
  pub tree : Tree
  pub more : Forest
  pub sound : WellFormedAll (child name tree more)
  pub here : Stands ws pos (head name tree more rest sound)
  pub then : Row ws (pos + nodes tree) more rest
  pub one : 1 ≤ nodes tree
  pub ends : pos + nodes tree + nodes_all more ≡ end
  pub holds : P (child name tree more)

-- The loop begins at a tree's first child.
pub start : {ws : List ℕ} {at : ℕ} {s : Stored} {end : ℕ} {P : Forest → Type 0} → Stands ws at s → end ≡ at + nodes s.tree
    → P (below s.tree) → Along ws s.rest end (at + 1) P
start {s = s} h e p =
    record { left = below s.tree; row = inside h; ends = omega (arith, nodes_below s.tree s.is_present); holds = p }

pub ahead : {ws rest : List ℕ} {end pos : ℕ} {P : Forest → Type 0} → Along ws rest end pos P → pos < end → Ahead ws rest end pos P
ahead {ws} {rest} {end} {pos} {P} a l = go a.left a.row a.ends a.holds
  where
    go : (left : Forest) → Row ws pos left rest → pos + nodes_all left ≡ end → P left → Ahead ws rest end pos P
    go empty row e p = absurd (omega arith)
    go (child n t f) row e p =
        record {
          name = n;
          tree = t;
          more = f;
          sound = row.well_formed;
          here = first row;
          then = second row;
          one = nodes_some t row.well_formed.0;
          ends = omega arith;
          holds = p;
        }

pub step : {ws rest : List ℕ} {end pos : ℕ} {P Q : Forest → Type 0} (a : Ahead ws rest end pos P) (k : ℕ) → k ≡ pos + nodes a.tree
    → Q a.more → Along ws rest end k Q
step {ws} {rest} a k e q =
    record { left = a.more; row = subst (λ m. Row ws m a.more rest) (sym e) a.then; ends = omega (arith, a.ends); holds = q }

-- It ends when nothing is left.
pub done : {ws rest : List ℕ} {end pos : ℕ} {P : Forest → Type 0} → Along ws rest end pos P → end ≤ pos → P empty
done {ws} {rest} {end} {pos} {P} a l = go a.left a.row.well_formed a.ends a.holds
  where
    go : (left : Forest) → WellFormedAll left → pos + nodes_all left ≡ end → P left → P empty
    go empty w e p = p
    go (child n t f) w e p = absurd (omega (arith, nodes_some t w.0))
