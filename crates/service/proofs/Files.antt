-- The trees of a file, of a round, and of what is shown of them.
use Rattle.std.proofs.Common.{◌≡◌, ℕ, false, List, Ok, Err, Result, sym, refl, ◌∙◌, subst}
use mathlib.Core.Logic.{∥∥₁_elim}
use Rattle.model.specs.Round.{Outcome}
use Rattle.refusals.specs.declared.Refusal.{Refusal}
use Rattle.stored.specs.Words.{Holds}
use Rattle.area.specs.Views.{view, among, Only}
use Rattle.area.specs.declared.types.Area.{Area}
use Rattle.tables.specs.declared.Table.{Table}
use Rattle.area.specs.declared.regions.Region.{Region}
use Rattle.area.specs.declared.regions.Region.TheVariants.{Tree, New}
use Rattle.merging.specs.Tables.{Sizes}
use Rattle.tables.specs.Pick.{pick as size_in}
use Rattle.ledger.specs.declared.Side.{Side}
use Rattle.ledger.specs.Answers.{table_of, copy}
use Rattle.service.specs.declared.types.File.{File}
use Rattle.service.specs.declared.types.Shown.{Shown}
use Rattle.service.specs.Keeping.{Kept, Came, region_of, trees_in}
use Rattle.service.specs.Service.{trees, shown, Same}
use Rattle.service.proofs.Once.{kept_once, open_keeps}
use Rattle.service.proofs.Kept.{still_kept, copy_held}

pub kept : (f : File) → Kept f.area Tree f.sizes (trees f)
kept f = open_keeps f.area Tree f.sizes f.ok

pub shown_kept : (s : Shown) → Kept s.area.now (region_of s.place) s.sizes (shown s)
shown_kept s = open_keeps s.area.now (region_of s.place) s.sizes s.ok

came_once : (b : Area) (r : Result Sizes Refusal) → IsProp (Came b r)
came_once b (Ok n) = kept_once b New n (trees_in b New n)
came_once b (Err d) = λ x y. refl

-- The outcome of a draw.
pub open_came : (b : Area) (r : Result Sizes Refusal) → ∥ Came b r ∥₁ → Came b r
open_came b r x = ∥∥₁_elim x (came_once b r) (λ h. h)

pub came_kept : {b : Area} {r : Result Sizes Refusal} {n : Sizes} → ∥ Came b r ∥₁ → r ≡ Ok n → Kept b New n (trees_in b New n)
came_kept {b} {r} x e = subst (Came b) e (open_came b r x)

-- A file is as it was, once other regions of its area are written.
module _ (f : File) {rs : List Region} {b : Area} (only : Only rs f.area b) (apart : (t : Table) → among (Tree t) rs ≡ false) where
  pub stays_kept : Kept b Tree f.sizes (trees f)
  stays_kept = still_kept (kept f) only apart

-- The copy of a side, told of a table that is the side's.
pub side_held : (f : File) (e : Side) (x : Table) → x ≡ table_of e → (k : ℕ) → k ≡ size_in x f.sizes → Holds (view f.area (Tree x)) k (copy e (trees f))
side_held f e x q k r =
    subst (λ j. Holds (view f.area (Tree x)) j (copy e (trees f))) (sym r)
    (subst (λ y. Holds (view f.area (Tree y)) (size_in y f.sizes) (copy e (trees f))) (sym q) (copy_held (kept f) e))

-- What is there at s is there at the trees of a file that a call left as they were.
pub as_before : {f g : File} (P : Outcome → Type 0) → Same f g → P (trees g) → P (trees f)
as_before P h x = subst P h.trees_stay x

pub same_on : {f g h : File} → Same f g → Same g h → Same f h
same_on a b = record { trees_stay = b.trees_stay ∙ a.trees_stay; limit_stays = b.limit_stays ∙ a.limit_stays }
