-- Every answer that is not a refusal gives trees that a round may rely on.
use Rattle.std.proofs.Common.{◌≡◌, ℕ, ◌+◌, ◌-◌, Bool, not, T, eqb, ltb, leb, List, [], ◌∷◌, ◌++◌, length, Some, None, Ok, Err, Option, Result, sym, refl, ap, ◌∙◌, subst, arith}
use Rattle.std.proofs.lemmas.List.{take_more, take_all}
use Rattle.model.specs.Trees.{Tree, missing, Path, names_of, present, insert, select, nodes, marks, WellFormed, at as what_stands_at}
use Rattle.model.specs.Meaning.{Meaning, class_at, allowed, Obeys}
use Rattle.model.specs.Faults.{first_fault}
use Rattle.model.specs.Edits.{set_at}
use Rattle.model.specs.Round.{Outcome, round}
use Rattle.model.specs.Safety.{Ready}
use Rattle.model.proofs.Trees.{at-++}
use Rattle.model.proofs.Place.{true_T}
use Rattle.model.proofs.Faults.{obeys_from}
use Rattle.model.proofs.Edits.{set_root, sound_set}
use Rattle.model.proofs.Obeying.{stands_above, puts_obey, strikes_obey}
use Rattle.model.proofs.Theorems.{no_marks, outcome_is_well_formed}
use Rattle.refusals.specs.declared.Refusal.{Refusal}
use Rattle.refusals.specs.declared.Whose.{Whose}
use Rattle.refusals.specs.declared.Whose.TheVariants as whose
use Rattle.records.specs.declared.Wanted.{Wanted}
use Rattle.records.specs.Reading.{says, then, most_deep}
use Rattle.records.proofs.Laws.{Holds, then_holds, cond_holds}
use Rattle.records.proofs.Fits.{Reads, reads}
use Rattle.obeying.specs.Lawful.{faulty, lawful, copy_of}
use Rattle.loading.specs.Loads.{within, an_archive, archive_loaded, copy_loaded}
use Rattle.ledger.specs.declared.Side.{Side}
use Rattle.ledger.specs.declared.Side.TheVariants as side
use Rattle.ledger.specs.Answers.{whose_of, copy, with_copy, both_obey, parent, last_name, leads, parent_stands, parent_allows, load_answer, put_answer, strike_answer, fits, draw_answer}

-- What a file holds: three well-formed trees, and both copies obey.
abbrev pub Sound : Meaning → Outcome → Type 0
Sound m s = Ready m (Some 0) s.archive s.field s.bench

-- One copy of it.
pub record Lawful (m : Meaning) (c : Option ℕ) (t : Tree) : Type 0 where
  pub well_formed : WellFormed t
  pub obeys : Obeys m c t

pub copy_lawful : {m : Meaning} (e : Side) (s : Outcome) → Sound m s → Lawful m (Some 0) (copy e s)
copy_lawful side.Field s h = record { well_formed = h.field_formed; obeys = h.field_obeys }
copy_lawful side.Bench s h = record { well_formed = h.bench_formed; obeys = h.bench_obeys }

pub copy_unmarked : {m : Meaning} (e : Side) (s : Outcome) → Sound m s → marks (copy e s) ≡ 0
copy_unmarked {m} e s h = no_marks m (Some 0) (copy e s) (copy_lawful e s h).obeys

with_copy_sound : {m : Meaning} (e : Side) (t : Tree) (s : Outcome) → Sound m s → Lawful m (Some 0) t → Sound m (with_copy e t s)
with_copy_sound side.Field t s h k =
    record {
      archive_formed = h.archive_formed;
      field_formed = k.well_formed;
      bench_formed = h.bench_formed;
      field_obeys = k.obeys;
      bench_obeys = h.bench_obeys;
    }
with_copy_sound side.Bench t s h k =
    record {
      archive_formed = h.archive_formed;
      field_formed = h.field_formed;
      bench_formed = k.well_formed;
      field_obeys = h.field_obeys;
      bench_obeys = k.obeys;
    }

-- Whatever the first answer is.
then_any : {X Y : Type 0} (r : Result X Refusal) (f : X → Result Y Refusal) (Q : Y → Type 0) → ((x : X) → Holds (f x) Q) → Holds (then r f) Q
then_any (Ok x) f Q k = k x
then_any (Err e) f Q k = tt

-- What passes each test.
lawful_holds : (m : Meaning) (c : Option ℕ) (w : Whose) (t : Tree) (P : Tree → Type 0) → P t → Holds (lawful m c w t) (λ u. P u × Obeys m c u)
lawful_holds m c w t P h = go (first_fault m c t) refl
  where
    go : (o : Option ℕ) → o ≡ first_fault m c t → Holds (faulty w t o) (λ u. P u × Obeys m c u)
    go None q = (h, obeys_from m c t 0 (sym q))
    go (Some n) q = tt

within_holds : (l : ℕ) (w : Whose) (t : Tree) (P : Tree → Type 0) → P t → Holds (within l w t) P
within_holds l w t P h = cond_holds (leb (nodes t) l) _ _ P (λ _. h) tt

leads_holds : (w : Whose) (t : Tree) (p : Path) (there : Bool) → Holds (leads w t p there) (λ _. T there)
leads_holds w t p there =
    cond_holds (ltb most_deep (length p)) _ _ (λ _. T there) (λ _. tt) (cond_holds there _ _ (λ _. T there) (true_T there) tt)

-- The names that the parent of a place will have are allowed.
abbrev Allowed : Meaning → Tree → Path → (List ℕ → List ℕ) → Type 0
Allowed m t [] change = Unit {0}
Allowed m t (k ∷ p) change =
    T (allowed m (class_at m (Some 0) (parent (k ∷ p))) (change (names_of (what_stands_at t (parent (k ∷ p))))))

allows_holds :
    (m : Meaning) (w : Whose) (t : Tree) (p : Path) (change : List ℕ → List ℕ)
    → Holds (parent_allows m w t p change) (λ _. Allowed m t p change)
allows_holds m w t [] change = tt
allows_holds m w t (k ∷ p) change =
    cond_holds (allowed m (class_at m (Some 0) (parent (k ∷ p))) (change (names_of (what_stands_at t (parent (k ∷ p)))))) _ _
    (λ _. Allowed m t (k ∷ p) change) (true_T _) tt

-- A path that is not empty is its parent's and its last name.
parent_and_last : (k : ℕ) (p : Path) → k ∷ p ≡ parent (k ∷ p) ++ last_name (k ∷ p) ∷ []
parent_and_last k p =
    let q = k ∷ p in
    let n = length q - 1 in
    sym (take_all (n + 1) q (omega arith)) ∙ take_more q n 0 (omega arith)

-- A copy with a tree put into it, or with one struck out.
put_lawful :
    (m : Meaning) (t : Tree) (p : Path) (u : Tree)
    → Lawful m (Some 0) t
    → T (parent_stands t p)
    → Allowed m t p (insert (last_name p))
    → WellFormed u
    → T (present u)
    → Obeys m (class_at m (Some 0) p) u
    → Lawful m (Some 0) (set_at t p u)
put_lawful m t [] u h s a v i o = rw (set_root t u) (record { well_formed = v; obeys = o })
put_lawful m t (k ∷ p) u h s a v i o =
    let e = parent_and_last k p in
    record {
      well_formed = sound_set t (k ∷ p) u h.well_formed v;
      obeys =
          subst (λ q. Obeys m (Some 0) (set_at t q u)) (sym e)
          (puts_obey m (Some 0) t (parent (k ∷ p)) (last_name (k ∷ p)) u h.well_formed v h.obeys s a i
          (subst (λ q. Obeys m (class_at m (Some 0) q) u) e o));
    }

strike_lawful :
    (m : Meaning) (t : Tree) (p : Path)
    → Lawful m (Some 0) t
    → T (present (what_stands_at t p))
    → Allowed m t p (select (λ n. not (eqb n (last_name p))))
    → Lawful m (Some 0) (set_at t p missing)
strike_lawful m t [] h s a = rw (set_root t missing) (record { well_formed = tt; obeys = tt })
strike_lawful m t (k ∷ p) h s a =
    let e = parent_and_last k p in
    let q = parent (k ∷ p) in
    let n = last_name (k ∷ p) in
    let above : T (present (what_stands_at t q)) =
    stands_above (what_stands_at t q) (n ∷ []) (subst (λ x. T (present x)) (ap (what_stands_at t) e ∙ at-++ t q (n ∷ [])) s) in
    record {
      well_formed = sound_set t (k ∷ p) missing h.well_formed tt;
      obeys = subst (λ x. Obeys m (Some 0) (set_at t x missing)) (sym e) (strikes_obey m (Some 0) t q n h.well_formed h.obeys above a);
    }

-- Each answer.
read_within : (l : ℕ) (bs : List ℕ) (w : Wanted) → Holds (then (says bs w) (within l w.whose)) WellFormed
read_within l bs w =
    then_holds (says bs w) _ (Reads w) WellFormed (reads bs w) (λ t r. within_holds l w.whose t WellFormed r.well_formed)

copy_read : (m : Meaning) (l : ℕ) (w : Whose) (bs : List ℕ) → Holds (copy_loaded m l w bs) (λ t. WellFormed t × Obeys m (Some 0) t)
copy_read m l w bs =
    then_holds (then (says bs (copy_of w 0)) (within l w)) _ WellFormed _ (read_within l bs (copy_of w 0))
    (λ t f. lawful_holds m (Some 0) w t WellFormed f)

pub load_sound : (m : Meaning) (l : ℕ) (o a b : List ℕ) → Holds (load_answer m l o a b) (Sound m)
load_sound m l o a b =
    then_holds (archive_loaded l o) _ WellFormed (Sound m) (read_within l o an_archive) (λ _ x.
    then_holds (copy_loaded m l whose.Field a) _ _ (Sound m) (copy_read m l whose.Field a) (λ _ y.
    then_holds (copy_loaded m l whose.Bench b) _ _ (Sound m) (copy_read m l whose.Bench b) (λ _ z.
    record { archive_formed = x; field_formed = y.0; bench_formed = z.0; field_obeys = y.1; bench_obeys = z.1 })))

pub put_sound : (m : Meaning) (l : ℕ) (s : Outcome) (e : Side) (p : Path) (bytes : List ℕ) → Sound m s → Holds (put_answer m l s e p bytes) (Sound m)
put_sound m l s e p bytes h =
    let w = whose_of e in
    let t = copy e s in
    let wanted = copy_of whose.Brought (length p) in
    then_any (both_obey m s) _ (Sound m) (λ _.
    then_holds (leads w t p (parent_stands t p)) _ _ (Sound m) (leads_holds w t p (parent_stands t p)) (λ _ stand.
    then_holds (parent_allows m w t p (insert (last_name p))) _ _ (Sound m) (allows_holds m w t p (insert (last_name p))) (λ _ allow.
    then_holds (says bytes wanted) _ (Reads wanted) (Sound m) (reads bytes wanted) (λ brought r.
    then_holds (lawful m (class_at m (Some 0) p) whose.Brought brought) _ _ (Sound m)
    (lawful_holds m (class_at m (Some 0) p) whose.Brought brought (Reads wanted) r) (λ u x.
    then_holds (within l w (set_at t p u)) _ (Lawful m (Some 0)) (Sound m)
    (within_holds l w (set_at t p u) (Lawful m (Some 0))
    (put_lawful m t p u (copy_lawful e s h) stand allow x.0.well_formed (true_T (present u) x.0.stands) x.1))
    (λ new k. with_copy_sound e new s h k))))))

pub strike_sound : (m : Meaning) (s : Outcome) (e : Side) (p : Path) → Sound m s → Holds (strike_answer m s e p) (Sound m)
strike_sound m s e p h =
    let w = whose_of e in
    let t = copy e s in
    let others = select (λ n. not (eqb n (last_name p))) in
    then_any (both_obey m s) _ (Sound m) (λ _.
    then_holds (leads w t p (present (what_stands_at t p))) _ _ (Sound m) (leads_holds w t p (present (what_stands_at t p))) (λ _ stand.
    then_holds (parent_allows m w t p others) _ _ (Sound m) (allows_holds m w t p others) (λ _ allow.
    with_copy_sound e (set_at t p missing) s h (strike_lawful m t p (copy_lawful e s h) stand allow))))

-- A draw that is not refused comes to the outcome of the round.
pub draw_is_round : (m : Meaning) (l : ℕ) (s : Outcome) → Holds (draw_answer m l s) (λ r. r ≡ round m s.archive s.field s.bench)
draw_is_round m l s =
    let r = round m s.archive s.field s.bench in
    let Is : Outcome → Type 0 = λ x. x ≡ r in
    then_any (both_obey m s) _ Is (λ _.
    then_any (fits l whose.Archive r.archive) _ Is (λ _.
    then_any (fits l whose.Field r.field) _ Is (λ _.
    then_any (fits l whose.Bench r.bench) _ Is (λ _. refl))))

pub round_sound : (m : Meaning) (s : Outcome) → Sound m s → Sound m (round m s.archive s.field s.bench)
round_sound m s h =
    let w = outcome_is_well_formed m s.archive s.field s.bench h in
    record {
      archive_formed = w.archive_made.well_formed;
      field_formed = w.field_made.well_formed;
      bench_formed = w.bench_made.well_formed;
      field_obeys = w.field_sound.obeys;
      bench_obeys = w.bench_sound.obeys;
    }

pub draw_sound : (m : Meaning) (l : ℕ) (s : Outcome) → Sound m s → Holds (draw_answer m l s) (Sound m)
draw_sound m l s h = go (draw_answer m l s) (draw_is_round m l s)
  where
    go : (r : Result Outcome Refusal) → Holds r (λ x. x ≡ round m s.archive s.field s.bench) → Holds r (Sound m)
    go (Ok x) e = subst (Sound m) (sym e) (round_sound m s h)
    go (Err e) k = tt
