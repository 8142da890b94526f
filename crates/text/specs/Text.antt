-- The text form of a tree, and beside it that of a refusal.
use Rattle.std.specs.Prelude.{ℕ, Bool, true, false, cond, List, [], ◌++◌, codes, decimal, ◌==◌}
use Rattle.model.specs.Trees.{Tree, missing, mark, node, Forest, empty, child}
pub use Rattle.refusals.specs.Line.{line, refusal_line}

-- A node without children.
abbrev pub bare : Tree → Bool
bare missing = false
bare mark = false
bare (node empty) = true
bare (node (child n t rest)) = false

-- What follows the name of a child: nothing if it is bare, else a colon and its text.
abbrev pub under : Tree → List ℕ → List ℕ
under t bytes = cond (bare t) [] (codes ":" ++ bytes)

-- A missing tree is `-`, a mark is `!`, and a node is its children in braces.
abbrev mutual
  pub text : Tree → List ℕ
  text missing = codes "-"
  text mark = codes "!"
  text (node f) = codes "{" ++ (children f ++ codes "}")

  -- The first child, and then the others.
  pub children : Forest → List ℕ
  children empty = []
  children (child n t rest) = decimal n ++ (under t (text t) ++ others rest)

  -- Each behind a comma.
  pub others : Forest → List ℕ
  others empty = []
  others (child n t rest) = codes "," ++ (decimal n ++ (under t (text t) ++ others rest))

-- Below the root a colon stands before a text.
abbrev pub colon : ℕ → List ℕ
colon d = cond (d == 0) [] (codes ":")

-- What is written of a tree at a depth: the text of the root, and below it what follows a name.
abbrev pub placed : ℕ → Tree → List ℕ
placed d t = cond (d == 0) (text t) (under t (text t))
