-- A copy that is written anew.
use Rattle.std.proofs.Common.{◌≡◌, ℕ, ◌+◌, ◌-◌, ◌*◌, ◌<◌, ◌≤◌, false, eqb, List, [], ◌∷◌, length, take, Ok, Err, sym, refl, ap, subst, arith}
use Rattle.std.proofs.lemmas.Bool.{le-leb, lt-leb, cond-true, cond-false, cond_both}
use Rattle.model.specs.Trees.{Tree as TheTree, missing, mark, node, Forest, empty, child, find, kid, Path, at, WellFormed, nodes, nodes_all, marks, depth}
use Rattle.model.specs.Edits.{set_at, HasParent}
use Rattle.model.proofs.Edits.{set_root, sound_set, edits_are_counted, edits_bring_no_marks, edits_stay_shallow}
use Rattle.model.specs.Round.{Outcome}
use Rattle.stored.specs.Words.{emit, Holds}
use Rattle.area.specs.Views.{view, among, Only}
use Rattle.area.specs.declared.types.Area.{Area}
use Rattle.tables.specs.declared.Table.{Table}
use Rattle.tables.specs.declared.Table.TheVariants as table
use Rattle.area.specs.declared.regions.Region.TheVariants.{Tree, New}
use Rattle.area.proofs.Laws.{limit_small}
use Rattle.editing.specs.Splicing.{Edited}
use Rattle.editing.proofs.Grafts.{held_from}
use Rattle.refusals.specs.declared.Reason.TheVariants.{Crowded}
use Rattle.refusals.specs.Numbers.{refused}
use Rattle.model.specs.Trees.{WellFormed}
use Rattle.tables.specs.Pick.{pick as size_in}
use Rattle.ledger.specs.declared.Side.{Side}
use Rattle.ledger.specs.Answers.{whose_of, table_of, copy, with_copy}
use Rattle.service.specs.declared.types.File.{File}
use Rattle.service.specs.Keeping.{Kept}
use Rattle.service.specs.Service.{trees, limit}
use Rattle.service.specs.Edits.{edited, replaced, Renews, Replaces}
use Rattle.service.proofs.Chains.{ok_first, err_first}
use Rattle.service.proofs.Kept.{still_kept, with_size, copy_held, copy_unmarked, copy_few, kept_with}
use Rattle.service.proofs.Files.{kept, side_held}

-- What stands at a path is no larger than the tree.
found_few : (f : Forest) (k : ℕ) → nodes (find f k) ≤ nodes_all f
found_few empty k = omega arith
found_few (child n t f) k = cond_both (eqb k n) t (find f k) (λ u. nodes u ≤ nodes t + nodes_all f) (λ e. omega arith) (λ e. omega (arith, found_few f k))

kid_few : (t : TheTree) (k : ℕ) → nodes (kid t k) ≤ nodes t
kid_few missing k = omega arith
kid_few mark k = omega arith
kid_few (node f) k = omega (arith, found_few f k)

at_few : (t : TheTree) (p : Path) → nodes (at t p) ≤ nodes t
at_few t [] = omega arith
at_few t (k ∷ p) = omega (arith, at_few (kid t k) p, kid_few t k)

-- An edit at a path of any length is counted.
edit_counted : (t : TheTree) (p : Path) (u : TheTree) → WellFormed t → marks t ≡ 0 → (1 ≤ length p → HasParent t p)
    → nodes (set_at t p u) + nodes (at t p) ≡ nodes t + nodes u
edit_counted t [] u w z h = omega (arith, ap nodes (set_root t u))
edit_counted t (k ∷ p) u w z h = edits_are_counted t (k ∷ p) u w z (h (omega arith))

edit_shallow : (t : TheTree) (p : Path) (u : TheTree) → depth t ≤ 32 → length p + depth u ≤ 32 → depth (set_at t p u) ≤ 32
edit_shallow t p u a b = omega (arith, edits_stay_shallow t p u)

pub still_unmarked : (t : TheTree) (p : Path) (u : TheTree) → marks t ≡ 0 → marks u ≡ 0 → marks (set_at t p u) ≡ 0
still_unmarked t p u a b = omega (arith, edits_bring_no_marks t p u)

module _ {f : File} {e : Side} {p : Path} {grown : ℕ} {u : TheTree} (w : Renews f e p grown u) where
  abbrev t : TheTree
  t = copy e (trees f)

  -- The edit, told of a table that is the side's.
  pub edited_of : (x : Table) → x ≡ table_of e → (k : ℕ) → k ≡ size_in x f.sizes → Edited f.area x k p (New table.Archive) grown t u
  edited_of x q k r =
      record {
        holds = side_held f e x q k r;
        unmarked = copy_unmarked (kept f) e;
        parent = w.parent;
        offer = w.offer;
        fits = omega (arith, w.few);
      }

  -- The next tree of the copy was written, and then adopted.
  pub renewed : {b d : Area} (x : Table) → x ≡ table_of e → (n : ℕ) → n ≡ nodes (set_at t p u)
      → take (3 * n) (view b (New x)) ≡ emit (set_at t p u) 0 [] → Only (New x ∷ []) f.area b → Only (Tree x ∷ []) b d
      → ((t : TheTree) → Holds (view b (New x)) n t → Holds (view d (Tree x)) n t)
      → Kept d Tree (with_size e n f.sizes) (edited (trees f) e p u)
  renewed {b} {d} x q n count words next own held =
      let h = kept f in
      let new = held (set_at t p u) (held_from (view b (New x)) n (set_at t p u) words
      (sound_set t p u (copy_held h e).begins.well_formed w.offer.well_formed) count (omega (arith, w.few, limit_small f.area)) w.shallow) in
      kept_with (still_kept h next (λ t. refl)) e own (λ y k. subst (λ z. among (Tree y) (Tree z ∷ []) ≡ false) (sym q) k)
      (subst (λ z. Holds (view d (Tree z)) n (set_at t p u)) q new) (omega (arith, w.few, next.same_limit))
      (still_unmarked t p u (copy_unmarked h e) w.unmarked)

module _ {f : File} {e : Side} {p : Path} {u : TheTree} (w : Replaces f e p u) (k grown gone : ℕ)
    (own : k ≡ nodes (copy e (trees f))) (more : grown ≡ nodes u) (lost : gone ≡ nodes (at (copy e (trees f)) p)) where
  abbrev t' : TheTree
  t' = copy e (trees f)

  counted : nodes (set_at t' p u) + nodes (at t' p) ≡ nodes t' + nodes u
  counted = edit_counted t' p u (copy_held (kept f) e).begins.well_formed (copy_unmarked (kept f) e) w.parent

  -- The nodes of the copy with the tree in place.
  pub counts : k + grown - gone ≡ nodes (set_at t' p u)
  counts = omega (arith, counted, own, lost, more, at_few t' p)

  pub gone_few : gone ≤ k + grown
  gone_few = omega (arith, own, lost, at_few t' p)

  pub brought_few : nodes u ≤ nodes (set_at t' p u)
  brought_few = omega (arith, counted, at_few t' p)

  -- Once the tree was brought, the copy can be written anew.
  pub brought : {g : File} → WellFormed u → Only (New table.Archive ∷ []) f.area g.area → trees g ≡ trees f → (rest : List ℕ)
      → view g.area (New table.Archive) ≡ emit u 0 rest → nodes (set_at t' p u) ≤ limit f → Renews g e p grown u
  brought {g} formed only same rest words few =
      let back = sym same in
      record {
        offer = record { name = 0; rest = rest; well_formed = formed; words = words; count = more };
        unmarked = w.unmarked;
        parent = subst (λ s. 1 ≤ length p → HasParent (copy e s) p) back w.parent;
        few = subst (λ s. nodes (set_at (copy e s) p u) ≤ limit g) back (omega (arith, few, only.same_limit));
        shallow = subst (λ s. depth (set_at (copy e s) p u) ≤ 32) back (edit_shallow t' p u (copy_held (kept f) e).shallow w.shallow);
      }

-- The answer, by the number of nodes.
module _ (l : ℕ) (s : Outcome) (e : Side) (p : Path) (u : TheTree) where
  abbrev new : TheTree
  new = set_at (copy e s) p u

  pub too_many : l < nodes new → replaced l s e p u ≡ Err (refused Crowded (whose_of e) (nodes new))
  too_many h = err_first (λ t. Ok (with_copy e t s)) (cond-false _ _ _ (lt-leb (nodes new) l h))

  pub few_enough : nodes new ≤ l → replaced l s e p u ≡ Ok (edited s e p u)
  few_enough h = ok_first (λ t. Ok (with_copy e t s)) (cond-true _ _ _ (le-leb (nodes new) l h))

-- A copy from which something is struck can be written anew.
pub struck : (f : File) (e : Side) (p : Path) → (1 ≤ length p → HasParent (copy e (trees f)) p) → length p ≤ 32 → Renews f e p 0 missing
struck f e p parent short =
    let h = copy_held (kept f) e in
    let t = copy e (trees f) in
    let n = edit_counted t p missing h.begins.well_formed (copy_unmarked (kept f) e) parent in
    record {
      offer = record { name = 0; rest = view f.area (New table.Archive); well_formed = tt; words = refl; count = refl };
      unmarked = refl;
      parent = parent;
      few = omega (arith, copy_few (kept f) e);
      shallow = edit_shallow t p missing h.shallow (omega arith);
    }
