-- The parts of the children of a tree that stands in words.
use Rattle.std.proofs.Common.{◌≡◌, ℕ, ◌+◌, ◌-◌, ◌≤◌, true, false, List, length, sym, ◌∙◌, subst, arith}
use Rattle.model.specs.Trees.{missing, Forest, empty, child, find, names, WellFormedAll, nodes, nodes_all}
use Rattle.model.proofs.Trees.{not_there}
use Rattle.stored.specs.Words.{Stored, Stands, Row, below}
use Rattle.stored.specs.Lookup.{Between, smaller, from_on, starts}
use Rattle.stored.proofs.Places.{nodes_below, nodes_some, sound_below, inside}
use Rattle.stored.proofs.Lookup.{Under, ascends_below, starts_present, found_there}
use Rattle.editing.specs.Splitting.{larger, Splits}
use Rattle.editing.specs.declared.reading.Parts.{Parts}
use Rattle.editing.proofs.Siblings.{nodes_split, row_smaller, row_larger}

-- A forest has no more names than nodes.
pub names_few : (f : Forest) → WellFormedAll f → length (names f) ≤ nodes_all f
names_few empty w = omega arith
names_few (child n t f) w = omega (arith, nodes_some t w.0, names_few f w.2)

-- What a lookup that stopped at `stop` tells of the child under the name.
pub met : {ws : List ℕ} {from end : ℕ} {f : Forest} (k stop : ℕ) → Between ws from end f → stop ≡ from + nodes_all (smaller k f)
    → true ≡ starts k (from_on k f) → Under ws stop k (find f k)
met {ws} {f = f} k stop b e t = subst (λ i. Under ws i k (find f k)) (sym e) (found_there k b (sym t))

pub unmet : (s : Stored) (k : ℕ) → false ≡ starts k (from_on k (below s.tree)) → find (below s.tree) k ≡ missing
unmet s k t =
    not_there (find (below s.tree) k)
    (sym (starts_present k (below s.tree) (ascends_below s.tree s.well_formed) (sound_below s.tree s.well_formed)) ∙ sym t)

-- The two parts that a split tells.
module _ {ws : List ℕ} {at k : ℕ} {s : Stored} {r : Parts} (h : Stands ws at s) (p : Splits at k s.tree r) where
  pub between_smaller : Between ws (at + 1) r.up_to (smaller k (below s.tree))
  between_smaller =
      record {
        rest = _;
        row = row_smaller (below s.tree) k (ascends_below s.tree s.well_formed) (sound_below s.tree s.well_formed) (inside h);
        ends = p.up_to;
      }

  pub between_larger : Between ws r.from_on r.end (larger k (below s.tree))
  between_larger =
      let f = below s.tree in
      let a = ascends_below s.tree s.well_formed in
      let w = sound_below s.tree s.well_formed in
      let e : at + 1 + nodes_all (smaller k f) + nodes (find f k) ≡ r.from_on = omega (arith, p.up_to, p.from_on) in
      record {
        rest = s.rest;
        row = subst (λ i. Row ws i (larger k f) s.rest) e (row_larger f k a w (inside h));
        ends = omega (arith, p.up_to, p.from_on, p.end, nodes_split f k a w, nodes_below s.tree s.is_present);
      }

  -- With one name more there are still no more names than nodes.
  pub parts_few : length (names (smaller k (below s.tree))) + 1 + (r.end - r.from_on) ≤ nodes s.tree
  parts_few =
      let f = below s.tree in
      let a = ascends_below s.tree s.well_formed in
      let w = sound_below s.tree s.well_formed in
      omega (arith, p.up_to, p.from_on, p.end, nodes_split f k a w, nodes_below s.tree s.is_present, names_few (smaller k f) between_smaller.row.well_formed)

  pub smaller_within : r.up_to ≤ at + nodes s.tree
  smaller_within =
      let f = below s.tree in
      let split = nodes_split f k (ascends_below s.tree s.well_formed) (sound_below s.tree s.well_formed) in
      omega (arith, p.up_to, nodes_below s.tree s.is_present)
