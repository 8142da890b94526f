-- The theorems.
use Rattle.std.proofs.Common.{◌≡◌, ℕ, ◌⊎◌, [], ◌∷◌, ◌++◌, Some, Option, sym, refl, ap, subst, inl, inr, arith}
use Rattle.model.specs.Trees.{Tree, missing, mark, node, Forest, empty, child, Path, at, Alike, Equal, marks, marks_all}
use Rattle.model.specs.Meaning.{Meaning, class_under, Obeys, ObeyAll}
use Rattle.model.specs.Round.{Outcome, round}
use Rattle.model.specs.Safety.{InConflict, AtOrBelowConflict}
use Rattle.model.specs.Theorems.{EqualTreesAreOne, StepsAsTold, MarkedExactlyAtConflicts, OutcomeIsSafe, NoRivalDoesMore, OutcomeIsWellFormed}
use Rattle.model.proofs.Trees.{same_one, one_same, equal_one, equal_refl, at_mark, at-++}
use Rattle.model.proofs.Steps.{steps_law}
use Rattle.model.proofs.Place.{not_marked}
use Rattle.model.proofs.Paths.{along, Fate, blocked, free, fate}
use Rattle.model.proofs.Whole.{parts}

pub equal_trees_are_one : EqualTreesAreOne
equal_trees_are_one s t hs ht =
    ((λ e. equal_refl s t (same_one s t e), λ e. one_same s t (equal_one s t hs ht e)), (equal_refl s t, equal_one s t hs ht))

pub steps_as_told : StepsAsTold
steps_as_told m c o a b h = steps_law m c o a b h

pub marked_exactly_at_conflicts : MarkedExactlyAtConflicts
marked_exactly_at_conflicts m o a b h p = go (fate m (Some 0) o a b p h)
  where
    go : Fate m (Some 0) o a b (round m o a b) p → (at (round m o a b).archive p ≡ mark → AtOrBelowConflict m (Some 0) o a b p) × (AtOrBelowConflict m (Some 0) o a b p → at (round m o a b).archive p ≡ mark)
    go (blocked x e) = (λ z. x, λ z. ap (λ (r : Outcome). r.archive) e)
    go (free n x) = (λ z. absurd (not_marked (at (round m o a b).archive p) x.no_mark z), λ z. absurd (n z))

-- Safety at one path.
record Here (o a b : Tree) (r : Outcome) : Type 0 where
  field_kept : ¬ Alike o a → Alike r.field a
  bench_kept : ¬ Alike o b → Alike r.bench b
  field_known : Alike r.field a ⊎ Alike r.field b
  bench_known : Alike r.bench a ⊎ Alike r.bench b
  archive_known : (r.archive ≡ mark) ⊎ (Alike r.archive r.field × Alike r.archive r.bench)

here : (m : Meaning) (c : Option ℕ) (o a b : Tree) (p : Path) (r : Outcome) → Fate m c o a b r p → Here (at o p) (at a p) (at b p) (along r p)
here m c o a b p r (blocked x e) =
    subst (Here (at o p) (at a p) (at b p)) (sym e)
    (record {
      field_kept = λ n. refl;
      bench_kept = λ n. refl;
      field_known = inl refl;
      bench_known = inr refl;
      archive_known = inl refl;
    })
here m c o a b p r (free n x) =
    record {
      field_kept = x.keeps_field;
      bench_kept = x.keeps_bench;
      field_known = x.knows_field;
      bench_known = x.knows_bench;
      archive_known = inr (x.like_field, x.like_bench);
    }

append_none : (p : Path) → p ≡ p ++ []
append_none [] = refl
append_none (k ∷ p) = ap (λ l. k ∷ l) (append_none p)

stop :
    (m : Meaning) (c : Option ℕ) (o a b : Tree) (p : Path) (r : Outcome)
    → Fate m c o a b r p
    → InConflict m c o a b p
    → Equal (at r.field p) (at a p) × Equal (at r.bench p) (at b p) × (at r.archive p ≡ mark)
stop m c o a b p r (blocked x e) z = (
  equal_refl (at r.field p) (at a p) (ap (λ (s : Outcome). s.field) e),
  equal_refl (at r.bench p) (at b p) (ap (λ (s : Outcome). s.bench) e),
  ap (λ (s : Outcome). s.archive) e,
)
stop m c o a b p r (free n x) z = absurd (n (p, [], append_none p, z))

pub outcome_is_safe : OutcomeIsSafe
outcome_is_safe m o a b h =
    record {
      field_kept = λ p. (at_path p).field_kept;
      bench_kept = λ p. (at_path p).bench_kept;
      field_known = λ p. (at_path p).field_known;
      bench_known = λ p. (at_path p).bench_known;
      archive_known = λ p. (at_path p).archive_known;
      stopped = λ p. stop m (Some 0) o a b p (round m o a b) (fate m (Some 0) o a b p h);
      field_obeys = (parts m (Some 0) o a b h).field_obeys;
      bench_obeys = (parts m (Some 0) o a b h).bench_obeys;
    }
  where
    at_path : (p : Path) → Here (at o p) (at a p) (at b p) (along (round m o a b) p)
    at_path p = here m (Some 0) o a b p (round m o a b) (fate m (Some 0) o a b p h)

-- What holds of a safe outcome below a path in conflict.
below_equal : (s t : Tree) (p q z : Path) → p ≡ q ++ z → Equal (at s q) (at t q) → Alike (at s p) (at t p)
below_equal s t p q z e h =
    let w = h z in
    let x = at-++ s q z in
    let y = at-++ t q z in
    cc

below_mark : (t : Tree) (p q z : Path) → p ≡ q ++ z → at t q ≡ mark → at t p ≡ mark
below_mark t p q z e h =
    let x = at-++ t q z in
    let y = at_mark z in
    cc

pub no_rival_does_more : NoRivalDoesMore
no_rival_does_more m o a b h r safe =
    record {
      agrees = λ p same. agree p same (fate m (Some 0) o a b p h);
      marks = λ p e. marked p ((marked_exactly_at_conflicts m o a b h p).0 e);
    }
  where
    marked : (p : Path) → AtOrBelowConflict m (Some 0) o a b p → at r.archive p ≡ mark
    marked p (q, z, e, x) = below_mark r.archive p q z e (safe.stopped q x).2

    agree :
        (p : Path)
        → Alike (at r.field p) (at r.bench p)
        → Fate m (Some 0) o a b (round m o a b) p
        → Alike (at (round m o a b).field p) (at (round m o a b).bench p)
    agree p same (blocked (q, z, e, x) w) =
        let u = below_equal r.field a p q z e (safe.stopped q x).0 in
        let v = below_equal r.bench b p q z e (safe.stopped q x).1 in
        let f = ap (λ (s : Outcome). s.field) w in
        let g = ap (λ (s : Outcome). s.bench) w in
        cc
    agree p same (free n x) =
        let u = x.like_field in
        let v = x.like_bench in
        cc

-- What obeys has no marks.
mutual
  pub no_marks : (m : Meaning) (c : Option ℕ) (t : Tree) → Obeys m c t → marks t ≡ 0
  no_marks m c missing h = refl
  no_marks m c mark h = absurd h
  no_marks m c (node f) h = no_marks_all m c f h.1

  no_marks_all : (m : Meaning) (c : Option ℕ) (f : Forest) → ObeyAll m c f → marks_all f ≡ 0
  no_marks_all m c empty h = refl
  no_marks_all m c (child k t f) h = omega (arith, no_marks m (class_under m c k) t h.0, no_marks_all m c f h.1)

pub outcome_is_well_formed : OutcomeIsWellFormed
outcome_is_well_formed m o a b h =
    let w = parts m (Some 0) o a b h in
    record {
      archive_made = w.archive_part;
      field_made = w.field_part;
      bench_made = w.bench_part;
      field_sound = record { obeys = w.field_obeys; unmarked = no_marks m (Some 0) (round m o a b).field w.field_obeys };
      bench_sound = record { obeys = w.bench_obeys; unmarked = no_marks m (Some 0) (round m o a b).bench w.bench_obeys };
    }
