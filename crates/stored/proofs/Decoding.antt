-- The decoder gives back the tree whose words it reads.
use Rattle.std.proofs.Common.{◌≡◌, ℕ, zero, suc, ◌+◌, ◌-◌, ◌≤◌, List, sym, refl, ap, ◌∙◌, arith}
use Rattle.model.specs.Trees.{Tree, missing, mark, node, Forest, empty, child, WellFormedAll, nodes_all}
use Rattle.stored.specs.Words.{emits, Holds}
use Rattle.stored.proofs.Places.{nodes_some, skip}
use Rattle.stored.proofs.Nodes.{alone, sound_alone, nodes_alone, emit_alone}
use Rattle.stored.specs.Decoding.{row, first, tree_in}

-- The words of a forest give that forest, where no fewer trees may be read than it has nodes.
pub row_decodes : (most n : ℕ) (f : Forest) (rest : List ℕ) → WellFormedAll f → n ≡ nodes_all f → n ≤ most → row most n (emits f rest) ≡ f
row_decodes zero n empty rest w e l = refl
row_decodes (suc most) zero empty rest w e l = refl
row_decodes (suc most) (suc n) empty rest w e l = absurd (omega arith)
row_decodes zero n (child k t f) rest w e l = absurd (omega (arith, nodes_some t w.0))
row_decodes (suc most) zero (child k t f) rest w e l = absurd (omega (arith, nodes_some t w.0))
row_decodes (suc most) (suc n) (child k missing f) rest w e l = absurd w.0
row_decodes (suc most) (suc n) (child k mark f) rest w e l =
    ap (child k mark) (row_decodes most (suc n - 1) f rest w.2 (omega arith) (omega arith))
row_decodes (suc most) (suc n) (child k (node g) f) rest w e l =
    let below = row_decodes most (1 + nodes_all g - 1) g (emits f rest) w.1.1 (omega arith) (omega arith) in
    let left = suc n - (1 + nodes_all g) in
    let behind = ap (row most left) (skip (node g) k (emits f rest)) ∙ row_decodes most left f rest w.2 (omega arith) (omega arith) in
    λ i. child k (node (below i)) (behind i)

pub first_alone : (t : Tree) → first (alone t) ≡ t
first_alone missing = refl
first_alone mark = refl
first_alone (node f) = refl

-- Words that hold a tree say that tree.
pub decodes : {ws : List ℕ} {n : ℕ} {t : Tree} → Holds ws n t → tree_in ws n ≡ t
unfolding tree_in
decodes {n = n} {t = t} h =
    let b = h.begins in
    ap (λ l. first (row n n l)) (b.words ∙ emit_alone t b.rest)
    ∙ ap first (row_decodes n n (alone t) b.rest (sound_alone t b.well_formed) (h.count ∙ sym (nodes_alone t)) (omega arith))
    ∙ first_alone t
