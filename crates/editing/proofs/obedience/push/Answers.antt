use Rattle.std.proofs.Common.{◌≡◌, ℕ, ◌+◌, ◌-◌, ◌≤◌, List, ◌∷◌, length, drop, set, refl, ap, ◌∙◌, arith, length-set}
use Rattle.std.proofs.lemmas.List.{drop-set}
use Rattle.area.specs.Views.{view}
use Rattle.area.specs.declared.regions.Region.TheVariants.{Stack}
use Rattle.area.proofs.Laws.{also, view_length}
use Rattle.editing.proofs.obedience.push.Goals as goal

piled : (xs : List ℕ) (i a b : ℕ) → i + 2 ≤ length xs → drop i (set (set xs (i + 1) b) i a) ≡ a ∷ b ∷ drop (i + 2) xs
piled xs i a b h =
    let two : i + 1 + 1 ≡ i + 2 = omega arith in
    drop-set (set xs (i + 1) b) i a (rw length-set (omega arith))
    ∙ ap (λ l. a ∷ l) (drop-set xs (i + 1) b (omega arith) ∙ ap (λ k. b ∷ drop k xs) two)

pub returns : goal.returns
returns c =
    let xs = view c.args.area.now Stack in
    let top = c.args.top in
    let a = c.args.first in
    let b = c.args.second in
    let p : top - 1 ≡ top - 2 + 1 = omega arith in
    let q : top - 2 + 2 ≡ top = omega arith in
    record {
      lower = omega arith;
      words =
          ap (drop (top - 2)) (c.set-2.ensures.here ∙ ap (λ l. set l (top - 2) a) c.set.ensures.here)
          ∙ ap (λ k. drop (top - 2) (set (set xs k b) (top - 2) a)) p
          ∙ piled xs (top - 2) a b (omega (arith, view_length c.args.area.now Stack))
          ∙ ap (λ k. a ∷ b ∷ drop k xs) q;
      only = also c.set.ensures.only c.set-2.ensures.only refl;
    }
