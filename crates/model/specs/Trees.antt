-- Trees, paths and marks.
use Rattle.std.specs.Prelude.{◌≡◌, ℕ, ◌+◌, ◌<◌, max, Bool, true, false, cond, ◌&&◌, T, ◌⊎◌, List, [], ◌∷◌, ◌==◌, nat_lt}

-- A name is a number of 32 bits.
abbrev pub is_name : ℕ → Bool
is_name n = nat_lt n 4294967296

-- What can stand at a place: nothing, a mark, or a node with its children.
mutual
  pub data Tree : Type 0 where
    missing : Tree
    mark : Tree
    node : Forest → Tree

  -- Children, each under its name.
  pub data Forest : Type 0 where
    empty : Forest
    child : ℕ → Tree → Forest → Forest

-- The child under the name k.
abbrev pub find : Forest → ℕ → Tree
find empty k = missing
find (child n t rest) k = cond (k == n) t (find rest k)

-- One name down: nothing is below what is missing, and what is below a mark counts as the mark.
abbrev pub kid : Tree → ℕ → Tree
kid missing k = missing
kid mark k = mark
kid (node f) k = find f k

abbrev pub Path : Type 0
Path = List ℕ

-- What stands in t at the path p.
abbrev pub at : Tree → Path → Tree
at t [] = t
at t (k ∷ p) = at (kid t k) p

pub data Shape : Type 0 where
  no_tree a_mark a_tree : Shape

abbrev pub shape : Tree → Shape
shape missing = no_tree
shape mark = a_mark
shape (node f) = a_tree

-- Of one shape, whatever lies below.
abbrev pub Alike : Tree → Tree → Type 0
Alike s t = shape s ≡ shape t

-- Of one shape at every path.
abbrev pub Equal : Tree → Tree → Type 0
Equal s t = (p : Path) → Alike (at s p) (at t p)

-- The names of the children.
abbrev pub names : Forest → List ℕ
names empty = []
names (child n t rest) = n ∷ names rest

abbrev pub names_of : Tree → List ℕ
names_of missing = []
names_of mark = []
names_of (node f) = names f

-- k is in the list.
abbrev pub Among : ℕ → List ℕ → Type 0
Among k [] = ⊥
Among k (n ∷ ns) = (k ≡ n) ⊎ Among k ns

-- Each name is above the one before it.
abbrev pub Below : ℕ → List ℕ → Type 0
Below n [] = Unit {0}
Below n (k ∷ ks) = (n < k) × Below n ks

abbrev pub Ascends : List ℕ → Type 0
Ascends [] = Unit {0}
Ascends (k ∷ ks) = Below k ks × Ascends ks

abbrev pub present : Tree → Bool
present missing = false
present mark = true
present (node f) = true

abbrev pub is_mark : Tree → Bool
is_mark missing = false
is_mark mark = true
is_mark (node f) = false

abbrev pub is_tree : Tree → Bool
is_tree missing = false
is_tree mark = false
is_tree (node f) = true

-- The one way to write a tree down: names ascend at every node, and a child that is listed is present.
abbrev mutual
  pub WellFormed : Tree → Type 0
  WellFormed missing = Unit {0}
  WellFormed mark = Unit {0}
  WellFormed (node f) = Ascends (names f) × WellFormedAll f

  pub WellFormedAll : Forest → Type 0
  WellFormedAll empty = Unit {0}
  WellFormedAll (child n t rest) = T (present t) × WellFormed t × WellFormedAll rest

-- The number of nodes; a mark is one.
abbrev mutual
  pub nodes : Tree → ℕ
  nodes missing = 0
  nodes mark = 1
  nodes (node f) = 1 + nodes_all f

  pub nodes_all : Forest → ℕ
  nodes_all empty = 0
  nodes_all (child n t rest) = nodes t + nodes_all rest

-- The number of marks.
abbrev mutual
  pub marks : Tree → ℕ
  marks missing = 0
  marks mark = 1
  marks (node f) = marks_all f

  pub marks_all : Forest → ℕ
  marks_all empty = 0
  marks_all (child n t rest) = marks t + marks_all rest

-- The length of the longest path to a node.
abbrev mutual
  pub depth : Tree → ℕ
  depth missing = 0
  depth mark = 0
  depth (node f) = depth_all f

  pub depth_all : Forest → ℕ
  depth_all empty = 0
  depth_all (child n t rest) = max (1 + depth t) (depth_all rest)

-- Every name in the tree passes a test.
abbrev mutual
  pub Named : (ℕ → Bool) → Tree → Type 0
  Named test missing = Unit {0}
  Named test mark = Unit {0}
  Named test (node f) = NamedAll test f

  pub NamedAll : (ℕ → Bool) → Forest → Type 0
  NamedAll test empty = Unit {0}
  NamedAll test (child n t rest) = T (test n) × Named test t × NamedAll test rest

-- Whether two trees are written the same; for well-formed trees that is equality (`EqualTreesAreOne`).
abbrev mutual
  pub same : Tree → Tree → Bool
  same missing missing = true
  same missing mark = false
  same missing (node g) = false
  same mark missing = false
  same mark mark = true
  same mark (node g) = false
  same (node f) missing = false
  same (node f) mark = false
  same (node f) (node g) = same_all f g

  pub same_all : Forest → Forest → Bool
  same_all empty empty = true
  same_all empty (child n t g) = false
  same_all (child n t f) empty = false
  same_all (child n t f) (child k u g) = n == k && same t u && same_all f g

-- The names of both lists, ascending.
abbrev pub insert : ℕ → List ℕ → List ℕ
insert k [] = k ∷ []
insert k (n ∷ ns) = cond (nat_lt k n) (k ∷ n ∷ ns) (cond (k == n) (n ∷ ns) (n ∷ insert k ns))

abbrev pub union : List ℕ → List ℕ → List ℕ
union [] ns = ns
union (k ∷ ks) ns = insert k (union ks ns)

-- The names that pass a test.
abbrev pub select : (ℕ → Bool) → List ℕ → List ℕ
select test [] = []
select test (k ∷ ks) = cond (test k) (k ∷ select test ks) (select test ks)

-- The children that a function gives for a list of names, where it gives one.
abbrev pub add : ℕ → Tree → Forest → Forest
add k missing f = f
add k mark f = child k mark f
add k (node g) f = child k (node g) f

abbrev pub gather : (ℕ → Tree) → List ℕ → Forest
gather under [] = empty
gather under (k ∷ ks) = add k (under k) (gather under ks)
