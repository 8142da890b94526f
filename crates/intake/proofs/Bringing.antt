-- The words of a tree, pasted over the front of others.
use Rattle.std.proofs.Common.{◌≡◌, ℕ, ◌+◌, ◌-◌, ◌*◌, List, [], ◌++◌, length, take, drop, sym, refl, ap, ◌∙◌, arith, take_at}
use lib.Seq.{paste}
use Rattle.std.proofs.lemmas.List.Edits.{paste_all}
use Rattle.model.specs.Trees.{Tree, nodes}
use Rattle.stored.specs.Words.{emit}
use Rattle.stored.proofs.Places.{length_emit}
use Rattle.stored.proofs.Unique.{emit_rest}

-- Of words that begin with those of a tree, the tree's.
front : (t : Tree) (size : ℕ) (rest : List ℕ) → size ≡ 3 * nodes t → take size (emit t 0 rest) ≡ emit t 0 []
front t size rest q =
    ap (take size) (emit_rest t 0 rest) ∙ take_at (emit t 0 []) rest size (omega (arith, length_emit t 0 []))

pub brought : (t : Tree) (size : ℕ) (tree rest part old new : List ℕ) → size ≡ 3 * nodes t → tree ≡ emit t 0 rest → part ≡ take (size - 0) tree
    → new ≡ paste old 0 part (length part) → new ≡ emit t 0 (drop (3 * nodes t) old)
brought t size tree rest part old new q e p h =
    let n = nodes t in
    let w : part ≡ emit t 0 [] = p ∙ ap (take (size - 0)) e ∙ front t (size - 0) rest (omega arith) in
    let l : 0 + length part ≡ 3 * n = omega (arith, ap length w, length_emit t 0 []) in
    h
    ∙ paste_all old 0 part (length part) refl
    ∙ ap (λ k. part ++ drop k old) l
    ∙ ap (λ x. x ++ drop (3 * n) old) w
    ∙ sym (emit_rest t 0 (drop (3 * n) old))
