-- Steps of a lookup among siblings.
use Rattle.std.proofs.Common.{◌≡◌, ℕ, ◌+◌, ◌<◌, ◌≤◌, false, eqb, sym, refl, ap, ◌∙◌, arith}
use Rattle.model.specs.Trees.{Tree, Forest, empty, child, nodes, nodes_all}
use Rattle.stored.specs.Lookup.{smaller, from_on, starts}
use Rattle.stored.proofs.Lookup.{passed, stopped, nodes_passed, none_passed}

-- A lookup of k from node number `from` on that has come to `pos`: it stops where a lookup in what is left does.
pub record Nearing (k from : ℕ) (f : Forest) (pos : ℕ) (left : Forest) : Type 0 where
  pub stop : pos + nodes_all (smaller k left) ≡ from + nodes_all (smaller k f)
  pub trees : from_on k left ≡ from_on k f

pub nearing : (k from : ℕ) (f : Forest) → Nearing k from f from f
nearing k from f = record { stop = refl; trees = refl }

pub nearer : {k from : ℕ} {f : Forest} {pos n : ℕ} {t : Tree} {left : Forest} (m : ℕ) → Nearing k from f pos (child n t left)
    → n < k → m ≡ pos + nodes t → Nearing k from f m left
nearer {k} {n = n} {t = t} {left = left} m a l e =
    record { stop = omega (arith, a.stop, nodes_passed k n t left l); trees = sym (passed k n t left l) ∙ a.trees }

pub there : {k from : ℕ} {f : Forest} {pos n : ℕ} {t : Tree} {left : Forest} (m : ℕ) → Nearing k from f pos (child n t left)
    → m ≡ n → k ≤ m → (pos ≡ from + nodes_all (smaller k f)) × (eqb m k ≡ starts k (from_on k f))
there {k} {n = n} {t = t} {left = left} m a e l =
    let q : k ≤ n = omega arith in (
      omega (arith, a.stop, none_passed k n t left q),
      ap (λ i. eqb i k) e ∙ ap (starts k) (sym (stopped k n t left q) ∙ a.trees),
    )

pub past_all : {k from : ℕ} {f : Forest} {pos : ℕ} → Nearing k from f pos empty
    → (pos ≡ from + nodes_all (smaller k f)) × (false ≡ starts k (from_on k f))
past_all {k} a = (omega (arith, a.stop), ap (starts k) a.trees)
