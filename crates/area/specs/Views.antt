-- An area as its callers see it: a limit, and a list of words for each region.
use Rattle.std.specs.Prelude.{◌≡◌, ℕ, ◌*◌, Bool, true, false, cond, List, [], ◌∷◌, take, drop, vec_items, ◌==◌}
use Rattle.area.specs.Layout.{slot, start, width}
use Rattle.area.specs.declared.types.Area.{Area}
use Rattle.area.specs.declared.regions.Region.{Region}
use Rattle.area.specs.declared.regions.Region.TheVariants.{Tree, New, Stack, Names}

-- The words of one region, where l is the limit.
unfoldable pub part : List ℕ → ℕ → Region → List ℕ
part ws l r = take (l * width r) (drop (l * start r) ws)

unfoldable pub view : Area → Region → List ℕ
view a r = part (vec_items a.words) a.limit r

unfoldable pub limit : Area → ℕ
limit a = a.limit

-- It computes as soon as the two kinds of region differ, also where a table is not known.
abbrev pub equal : Region → Region → Bool
equal (Tree s) (Tree t) = slot s == slot t
equal (Tree s) (New t) = false
equal (Tree s) Stack = false
equal (Tree s) Names = false
equal (New s) (Tree t) = false
equal (New s) (New t) = slot s == slot t
equal (New s) Stack = false
equal (New s) Names = false
equal Stack (Tree t) = false
equal Stack (New t) = false
equal Stack Stack = true
equal Stack Names = false
equal Names (Tree t) = false
equal Names (New t) = false
equal Names Stack = false
equal Names Names = true

abbrev pub among : Region → List Region → Bool
among q [] = false
among q (r ∷ rs) = cond (equal q r) true (among q rs)

-- Each region of the first list is in the second.
abbrev pub subset : List Region → List Region → Bool
subset [] rs = true
subset (s ∷ ss) rs = cond (among s rs) (subset ss rs) false

-- From a to b nothing changed but, perhaps, the regions listed.
pub record Only (rs : List Region) (a b : Area) : Type 0 where
  pub same_limit : limit b ≡ limit a
  pub same : (q : Region) → among q rs ≡ false → view b q ≡ view a q
