-- What a rulebook means, and the trees that obey it.
use Rattle.std.specs.Prelude.{◌≡◌, ℕ, ◌<◌, ◌≤◌, Bool, false, T, List, [], ◌∷◌, length, Some, None, Option}
use Rattle.model.specs.Trees.{Tree, missing, mark, node, Forest, empty, child, Path, names, Among, Ascends, WellFormed, Named, is_name, is_tree}

-- The number of classes, the sets of names allowed at a class, as ascending lists, and the class under a name.
pub record Meaning : Type 0 where
  pub classes : ℕ
  pub allows : ℕ → List ℕ → Bool
  pub under : ℕ → ℕ → Option ℕ

-- One name down, and along a path; below no class there is none.
abbrev pub class_under : Meaning → Option ℕ → ℕ → Option ℕ
class_under m None k = None
class_under m (Some c) k = m.under c k

abbrev pub class_at : Meaning → Option ℕ → Path → Option ℕ
class_at m c [] = c
class_at m c (k ∷ p) = class_at m (class_under m c k) p

-- Where there is no class, no set of names is allowed.
abbrev pub allowed : Meaning → Option ℕ → List ℕ → Bool
allowed m None ks = false
allowed m (Some c) ks = m.allows c ks

-- A node obeys a class that allows its names, if each child obeys the class under its name. What is missing obeys; a mark never does.
abbrev mutual
  pub Obeys : Meaning → Option ℕ → Tree → Type 0
  Obeys m c missing = Unit {0}
  Obeys m c mark = ⊥
  Obeys m c (node f) = T (allowed m c (names f)) × ObeyAll m c f

  pub ObeyAll : Meaning → Option ℕ → Forest → Type 0
  ObeyAll m c empty = Unit {0}
  ObeyAll m c (child k t rest) = Obeys m (class_under m c k) t × ObeyAll m c rest

-- The limits of every rulebook.
abbrev pub most_classes : ℕ
most_classes = 1000

abbrev pub most_names : ℕ
most_names = 8192

-- A meaning within the limits. A class that does not exist allows nothing and has nothing under it.
pub record Bounded (m : Meaning) : Type 0 where
  pub some_class : 1 ≤ m.classes
  pub few_classes : m.classes ≤ most_classes
  pub exists : (c : ℕ) (ks : List ℕ) → T (m.allows c ks) → c < m.classes
  pub ascends : (c : ℕ) (ks : List ℕ) → T (m.allows c ks) → Ascends ks
  pub few_names : (c : ℕ) (ks : List ℕ) → T (m.allows c ks) → length ks ≤ most_names
  pub nothing_under : (c k : ℕ) → m.classes ≤ c → m.under c k ≡ None

-- The first law: under each name that some allowed set contains there is a class, and it exists. Of other names nothing is asked.
abbrev pub NamesHaveClasses : Meaning → Type 0
NamesHaveClasses m =
    (c : ℕ) (ks : List ℕ) (k : ℕ) → T (m.allows c ks) → Among k ks → (d : ℕ) × (m.under c k ≡ Some d) × (d < m.classes)

-- The second law: every class has a tree that obeys it, and the names of that tree are names.
pub record Obeying (m : Meaning) (c : ℕ) : Type 0 where
  pub tree : Tree
  pub is_node : T (is_tree tree)
  pub well_formed : WellFormed tree
  pub named : Named is_name tree
  pub obeys : Obeys m (Some c) tree

abbrev pub ClassesHaveTrees : Meaning → Type 0
ClassesHaveTrees m = (c : ℕ) → c < m.classes → Obeying m c
