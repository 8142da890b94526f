-- What stands in a region, and how much.
use Rattle.std.proofs.Common.{◌≡◌, ℕ, ◌+◌, ◌*◌, ◌≤◌, false, T, List, [], ◌∷◌, length, drop, refl, ap, ◌∙◌, mul-le-mul_left, arith}
use Rattle.model.specs.Trees.{Tree as Trees, missing, mark, node, Forest, present, nodes}
use Rattle.stored.specs.Words.{Stored, Stands, Standing, Row, Holds}
use Rattle.stored.specs.Lookup.{Between}
use Rattle.stored.proofs.Places.{node_at}
use Rattle.area.specs.Layout.{width}
use Rattle.area.specs.Views.{among, view, limit}
use Rattle.area.specs.declared.types.Area.{Area}
use Rattle.area.specs.declared.regions.Region.{Region}
use Rattle.area.specs.declared.regions.Region.TheVariants.{Tree, New, Stack, Names}
use Rattle.area.proofs.Laws.{view_length, limit_small}
use Rattle.editing.specs.Regions.{holds_trees}

-- What stands in words stands in equal words.
pub carried : {xs ys : List ℕ} {at : ℕ} {s : Stored} → xs ≡ ys → Stands ys at s → Stands xs at s
carried {at = at} e h = record { words = ap (drop (3 * at)) e ∙ h.words }

pub carry : {xs ys : List ℕ} {at : ℕ} → xs ≡ ys → Standing ys at → Standing xs at
carry e h = (h.0, carried e h.1)

pub carried_row : {xs ys : List ℕ} {at : ℕ} {f : Forest} {rest : List ℕ} → xs ≡ ys → Row ys at f rest → Row xs at f rest
carried_row {at = at} e h = record { well_formed = h.well_formed; words = ap (drop (3 * at)) e ∙ h.words }

pub carried_between : {xs ys : List ℕ} {from end : ℕ} {f : Forest} → xs ≡ ys → Between ys from end f → Between xs from end f
carried_between e b = record { rest = b.rest; row = carried_row e b.row; ends = b.ends }

pub carried_holds : {xs ys : List ℕ} {n : ℕ} {t : Trees} → xs ≡ ys → Holds ys n t → Holds xs n t
carried_holds e h =
    record {
      begins = record { rest = h.begins.rest; well_formed = h.begins.well_formed; words = e ∙ h.begins.words };
      count = h.count;
      few = h.few;
      shallow = h.shallow;
    }

-- What has nodes is present.
pub some_present : (t : Trees) (n : ℕ) → n ≡ nodes t → (n ≡ 0 → ⊥) → T (present t)
some_present missing n e z = absurd (z e)
some_present mark n e z = tt
some_present (node f) n e z = tt

-- Names are written to no region that holds trees.
pub not_names : (r : Region) → T (holds_trees r) → among r (Names ∷ []) ≡ false
not_names (Tree t) h = refl
not_names (New t) h = refl
not_names Stack h = absurd h
not_names Names h = absurd h

tree_width : (r : Region) → T (holds_trees r) → width r ≤ 6
tree_width (Tree t) h = omega arith
tree_width (New t) h = omega arith
tree_width Stack h = absurd h
tree_width Names h = absurd h

some_width : (r : Region) → width r ≤ 16
some_width (Tree t) = omega arith
some_width (New t) = omega arith
some_width Stack = omega arith
some_width Names = omega arith

-- No region is long, so that no place in an area is far.
pub short : (a : Area) (r : Region) → length (view a r) ≤ 65536
short a r = omega (arith, view_length a r, limit_small a, mul-le-mul_left (limit a) (some_width r))

pub near : (a : Area) (r : Region) {at : ℕ} {s : Stored} → Stands (view a r) at s → at + nodes s.tree ≤ 65536
near a r h = omega (arith, (node_at h).whole, short a r)

-- A region that holds trees has no more nodes than there is room for names.
pub few : (a : Area) (r : Region) {at : ℕ} {s : Stored} → T (holds_trees r) → Stands (view a r) at s → at + nodes s.tree ≤ 2 * limit a
few a r t h = omega (arith, (node_at h).whole, view_length a r, mul-le-mul_left (limit a) (tree_width r t))

pub within_limit : (a : Area) (r : Region) {at : ℕ} {s : Stored} → width r ≡ 3 → Stands (view a r) at s → at + nodes s.tree ≤ limit a
within_limit a r w h = omega (arith, (node_at h).whole, view_length a r, ap (λ k. limit a * k) w)
