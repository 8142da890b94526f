-- Forests, one behind the other.
use Rattle.std.proofs.Common.{◌≡◌, ℕ, ◌+◌, List, refl, ap, subst, arith}
use Rattle.model.specs.Trees.{Forest, empty, child, WellFormedAll, nodes, nodes_all}
use Rattle.stored.specs.Words.{emit, emits, Row}
use Rattle.stored.proofs.Places.{second}

abbrev pub join : Forest → Forest → Forest
join empty g = g
join (child n t f) g = child n t (join f g)

pub sound_join : (f g : Forest) → WellFormedAll f → WellFormedAll g → WellFormedAll (join f g)
sound_join empty g s r = r
sound_join (child n t f) g s r = (s.0, s.1, sound_join f g s.2 r)

pub nodes_join : (f g : Forest) → nodes_all (join f g) ≡ nodes_all f + nodes_all g
nodes_join empty g = omega arith
nodes_join (child n t f) g = omega (arith, nodes_join f g)

pub emits_join : (f g : Forest) (rest : List ℕ) → emits (join f g) rest ≡ emits f (emits g rest)
emits_join empty g rest = refl
emits_join (child n t f) g rest = ap (emit t n) (emits_join f g rest)

-- The second of two forests stands behind the first.
pub row_behind : {ws : List ℕ} {at : ℕ} {rest : List ℕ} (f g : Forest) → Row ws at (join f g) rest → Row ws (at + nodes_all f) g rest
row_behind {ws} {at} {rest} empty g h = let e : at ≡ at + 0 = omega arith in subst (λ k. Row ws k g rest) e h
row_behind {ws} {at} {rest} (child n t f) g h =
    let e : at + nodes t + nodes_all f ≡ at + (nodes t + nodes_all f) = omega arith in
    subst (λ k. Row ws k g rest) e (row_behind {at = at + nodes t} f g (second h))
