-- Words of 32 bits hold names of 32 bits.
use Rattle.std.proofs.Common.{ℕ, suc, ◌<◌, T, List, get_or, subst, lt→ltb}
use Rattle.model.specs.Trees.{Tree, missing, mark, node, Forest, empty, child, present, WellFormed, WellFormedAll, Named, NamedAll, is_name}
use Rattle.stored.specs.Words.{emit, emits, Holds}
use Rattle.stored.proofs.Places.{emit_view}

abbrev Narrow : List ℕ → Type 0
Narrow ws = (i : ℕ) → get_or ws i 0 < 4294967296

own_name : (t : Tree) (n : ℕ) (rest : List ℕ) → T (present t) → Narrow (emit t n rest) → T (is_name n)
own_name t n rest p h = lt→ltb n 4294967296 (subst Narrow (emit_view t n rest p) h 0)

-- The names of a tree whose words are narrow, and the words behind it.
mutual
  names_narrow : (t : Tree) (n : ℕ) (rest : List ℕ) → WellFormed t → Narrow (emit t n rest) → Named is_name t × Narrow rest
  names_narrow missing n rest w h = (tt, h)
  names_narrow mark n rest w h = (tt, λ i. h (suc (suc (suc i))))
  names_narrow (node f) n rest w h = all_narrow f rest w.1 (λ i. h (suc (suc (suc i))))

  all_narrow : (f : Forest) (rest : List ℕ) → WellFormedAll f → Narrow (emits f rest) → NamedAll is_name f × Narrow rest
  all_narrow empty rest w h = (tt, h)
  all_narrow (child n t f) rest w h =
      let first = names_narrow t n (emits f rest) w.1 h in
      let more = all_narrow f rest w.2 first.1 in
      ((own_name t n (emits f rest) w.0 h, first.0, more.0), more.1)

pub narrow : {ws : List ℕ} {k : ℕ} {t : Tree} → Narrow ws → Holds ws k t → Named is_name t
narrow {t = t} h x = (names_narrow t 0 x.begins.rest x.begins.well_formed (subst Narrow x.begins.words h)).0
