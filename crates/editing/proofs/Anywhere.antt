-- Edits at the empty path, and at others.
use Rattle.std.proofs.Common.{◌≡◌, ℕ, ◌+◌, ◌*◌, ◌≤◌, List, [], ◌∷◌, length, take, sym, refl, ap, ◌∙◌, arith}
use Rattle.model.specs.Trees.{Tree, missing, mark, node, Path, nodes}
use Rattle.model.specs.Edits.{set_at}
use Rattle.stored.specs.Words.{emit}
use Rattle.editing.specs.Splicing.{Splices, Replaces}

no_names : (p : Path) → length p ≡ 0 → p ≡ []
no_names [] e = refl
no_names (k ∷ p) e = absurd (omega arith)

-- At the empty path the other tree takes the place of the whole.
pub whole : (t : Tree) (p : Path) (u : Tree) → length p ≡ 0 → set_at t p u ≡ u
whole t p u e = ap (λ q. set_at t q u) (no_names p e) ∙ go t
  where
    go : (t : Tree) → set_at t [] u ≡ u
    go missing = refl
    go mark = refl
    go (node f) = refl

module _ {ws : List ℕ} {count : ℕ} {path : Path} {source : List ℕ} {grown most : ℕ} {t u : Tree} (h : Replaces ws count path source grown most t u) where
  pub splices : (length path ≡ 0 → ⊥) → Splices ws count path source grown most t u
  splices z =
      let l : 1 ≤ length path = omega arith in
      record { holds = h.holds; unmarked = h.unmarked; some_name = l; parent = h.parent l; offer = h.offer; fits = h.fits }

  pub room : length path ≡ 0 → grown ≤ most
  room z = omega (arith, h.offer.count, ap nodes (whole t path u z), h.fits)

  pub number : length path ≡ 0 → grown ≡ nodes (set_at t path u)
  number z = h.offer.count ∙ ap nodes (sym (whole t path u z))

  pub words : length path ≡ 0 → (new : List ℕ) → take (3 * (0 + grown)) new ≡ emit u 0 [] → take (3 * grown) new ≡ emit (set_at t path u) 0 []
  words z new e =
      let p : 3 * grown ≡ 3 * (0 + grown) = omega arith in
      ap (λ k. take k new) p ∙ e ∙ ap (λ x. emit x 0 []) (sym (whole t path u z))
