-- Words hold a tree, and are a tree's own, in one way at most.
use Rattle.std.proofs.Common.{◌≡◌, ℕ, ◌*◌, List, drop, sym, ap, ◌∙◌}
use native.Mathlib.Bridge.{le_prop}
use native.Mathlib.Nat.{ℕ_set}
use mathlib.Core.List.{is_set}
use mathlib.Core.Logic.{∥∥₁_elim}
use mathlib.Core.HLevel.{is_prop→PathP}
use lib.Dec.{T_prop}
use Rattle.model.specs.Trees.{Tree, present, nodes, is_name}
use Rattle.model.proofs.Once.{well_formed_once, well_formed_all_once, named_once}
use Rattle.stored.specs.Words.{emit, Begins, Holds}
use Rattle.stored.specs.Decoding.{all_trees, whole_tree}
use Rattle.stored.specs.Own.{Owned, OwnedAll, OwnedWhole}
use Rattle.stored.proofs.Places.{skip}

-- The words behind a tree are those that are left once its own are dropped.
rest_once : (ws : List ℕ) (t : Tree) (b c : Begins ws t) → b.rest ≡ c.rest
rest_once ws t b c =
    sym (skip t 0 b.rest) ∙ ap (drop (3 * nodes t)) (sym b.words ∙ c.words) ∙ skip t 0 c.rest

begins_once : (ws : List ℕ) (t : Tree) → IsProp (Begins ws t)
begins_once ws t b c = λ i.
    record {
      rest = rest_once ws t b c i;
      well_formed = well_formed_once t b.well_formed c.well_formed i;
      words = is_prop→PathP (λ j. ws ≡ emit t 0 (rest_once ws t b c j)) (λ j. is_set ℕ_set _ _) b.words c.words i;
    }

-- Words hold a tree in one way at most.
pub holds_once : (ws : List ℕ) (n : ℕ) (t : Tree) → IsProp (Holds ws n t)
holds_once ws n t h k = λ i.
    record {
      begins = begins_once ws t h.begins k.begins i;
      count = ℕ_set _ _ h.count k.count i;
      few = le_prop h.few k.few i;
      shallow = le_prop h.shallow k.shallow i;
    }

owned_once : (ws : List ℕ) → IsProp (Owned ws)
owned_once ws h k = λ i.
    record {
      is_present = T_prop (present (whole_tree ws)) h.is_present k.is_present i;
      well_formed = well_formed_once (whole_tree ws) h.well_formed k.well_formed i;
      words = is_set ℕ_set _ _ h.words k.words i;
      few = le_prop h.few k.few i;
    }

owned_all_once : (ws : List ℕ) → IsProp (OwnedAll ws)
owned_all_once ws h k = λ i.
    record {
      well_formed = well_formed_all_once (all_trees ws) h.well_formed k.well_formed i;
      words = is_set ℕ_set _ _ h.words k.words i;
      few = le_prop h.few k.few i;
    }

owned_whole_once : (ws : List ℕ) → IsProp (OwnedWhole ws)
owned_whole_once ws h k = λ i.
    record {
      well_formed = well_formed_once (whole_tree ws) h.well_formed k.well_formed i;
      words = is_set ℕ_set _ _ h.words k.words i;
      few = le_prop h.few k.few i;
      shallow = le_prop h.shallow k.shallow i;
      names = named_once is_name (whole_tree ws) h.names k.names i;
    }

-- So what is known to exist is at hand.
pub open_owned : {ws : List ℕ} → ∥ Owned ws ∥₁ → Owned ws
open_owned {ws} x = ∥∥₁_elim x (owned_once ws) (λ h. h)

pub open_all : {ws : List ℕ} → ∥ OwnedAll ws ∥₁ → OwnedAll ws
open_all {ws} x = ∥∥₁_elim x (owned_all_once ws) (λ h. h)

pub open_whole : {ws : List ℕ} → ∥ OwnedWhole ws ∥₁ → OwnedWhole ws
open_whole {ws} x = ∥∥₁_elim x (owned_whole_once ws) (λ h. h)
