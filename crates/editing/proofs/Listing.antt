-- Names written one behind the other.
use Rattle.std.proofs.Common.{◌≡◌, ℕ, ◌+◌, ◌<◌, List, ◌++◌, length, take, set, ap, ◌∙◌, arith}
use lib.Seq.{append_snoc}
use Rattle.std.proofs.lemmas.List.{take_more_set}
use Rattle.model.specs.Trees.{Tree, Forest, child, names}

-- The first i words of `out` and the names that are left are all the names, and so many.
pub record Listed (i : ℕ) (out all : List ℕ) (many : ℕ) (left : Forest) : Type 0 where
  pub so_far : take i out ++ names left ≡ all
  pub count : i + length (names left) ≡ many

pub list_one : {i : ℕ} {out all : List ℕ} {many n : ℕ} {t : Tree} {f : Forest} → Listed i out all many (child n t f) → i < length out
    → Listed (i + 1) (set out i n) all many f
list_one {i} {out} {n = n} {f = f} w l =
    record {
      so_far = ap (λ l. l ++ names f) (take_more_set out i n l) ∙ append_snoc (take i out) n (names f) ∙ w.so_far;
      count = omega (arith, w.count);
    }
