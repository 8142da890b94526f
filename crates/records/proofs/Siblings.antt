-- Siblings, read one after the other.
use Rattle.std.proofs.Common.{◌≡◌, ℕ, zero, suc, ◌-◌, ◌*◌, ◌<◌, ◌≤◌, Bool, true, false, cond, List, [], ◌∷◌, length, Ok, Err, Result, MatchResult, sym, refl, ap, ◌∙◌, subst, arith}
use Rattle.model.specs.Trees.{Forest, empty, child}
use Rattle.refusals.specs.declared.Refusal.{Refusal}
use Rattle.refusals.specs.declared.Reason.{Reason}
use Rattle.refusals.specs.declared.Reason.TheVariants.{Record, Count, Depth}
use Rattle.records.specs.declared.Elder.{Elder}
use Rattle.records.specs.declared.Elder.TheVariants.{First, After}
use Rattle.records.specs.declared.Entry.{Entry}
use Rattle.records.specs.declared.Wanted.{Wanted}
use Rattle.records.specs.Bytes.{entry_of, entries_of}
use Rattle.records.specs.Reading.{no, then, right, planted, here, Grown, grown, read, rests}
use Rattle.records.proofs.Chunks.{length_entries_of}

-- An answer that is told by cases of another.
pub given_ok : {A : Type 0} {x : Result A Refusal} (P : A → Type 0) (Q : Refusal → Type 0) (a : A) → x ≡ Ok a → P a → MatchResult x P Q
given_ok {x = x} P Q a h p = subst (λ y. MatchResult y P Q) (sym h) p

pub given_err : {A : Type 0} {x : Result A Refusal} (P : A → Type 0) (Q : Refusal → Type 0) (e : Refusal) → x ≡ Err e → Q e → MatchResult x P Q
given_err {x = x} P Q e h q = subst (λ y. MatchResult y P Q) (sym h) q

pub was_err : {A : Type 0} (V : Type 0) (x : Result A Refusal) (e : Refusal) → MatchResult x (λ _. ⊥) (λ d. ◌≡◌ {A = Result V Refusal} (Err e) (Err d)) → x ≡ Err e
was_err V (Ok a) e h = absurd h
was_err V (Err d) e h = let i : e ≡ d = cc in ap Err (sym i)

pub was_ok : {A V : Type 0} (x : Result A Refusal) (R : A → Type 0) (v : V) → MatchResult x R (λ d. ◌≡◌ {A = Result V Refusal} (Ok v) (Err d)) → (a : A) × (x ≡ Ok a) × R a
was_ok (Ok a) R v h = (a, refl, h)
was_ok (Err d) R v h = let z : ◌≡◌ {A = ℕ} 0 1 = cc in absurd (omega arith)

-- The place of a refusal, by the bytes and by the records that are left.
pub place : (w : Wanted) (r : Reason) (end : ℕ) (rs : List (List ℕ)) → no w r (end - 8 * length rs) ≡ no w r (here end (entries_of rs))
place w r end rs = ap (λ k. no w r (end - 8 * k)) (sym (length_entries_of rs))

pub split : {rs below : List (List ℕ)} {r : List ℕ} {e : Entry} → rs ≡ r ∷ below → e ≡ entry_of r → entries_of rs ≡ e ∷ entries_of below
split {below = below} p q = ap entries_of p ∙ ap (λ x. x ∷ entries_of below) (sym q)

pub none_left : (rs : List (List ℕ)) → length rs ≡ 0 → entries_of rs ≡ []
none_left [] l = refl
none_left (r ∷ rs) l = absurd (omega arith)

after_err : (r : Result Grown Refusal) (f : Grown → Result Grown Refusal) (e : Refusal) → rests r ≡ Err e → rests (then r f) ≡ Err e
after_err (Ok g) f e h = let z : ◌≡◌ {A = ℕ} 0 1 = cc in absurd (omega arith)
after_err (Err d) f e h = h

after_ok : (r : Result Grown Refusal) (f : List Entry → Result Grown Refusal) (row : Grown → Grown → Forest) (es : List Entry) → rests r ≡ Ok es
    → rests (then r (λ g. then (f g.rest) (λ h. Ok (grown (row g h) h.rest)))) ≡ rests (f es)
after_ok (Err d) f row es h = let z : ◌≡◌ {A = ℕ} 0 1 = cc in absurd (omega arith)
after_ok (Ok g) f row es h = let i : g.rest ≡ es = cc in go (f g.rest) ∙ ap (λ x. rests (f x)) i
  where
    go : (s : Result Grown Refusal) → rests (then s (λ h. Ok (grown (row g h) h.rest))) ≡ rests s
    go (Err d) = refl
    go (Ok k) = refl

-- The reading of a record that is present and not too deep, and of what follows, by whether it is right.
abbrev tried : Wanted → ℕ → ℕ → ℕ → Entry → List Entry → Bool → Result Grown Refusal
tried w end r k e es b =
    cond b
    (then (read w end r e.children First es) (λ g.
    then (read w end (suc r) k (After e.name) g.rest) (λ h.
    Ok (grown (child e.name (planted e g.row) h.row) h.rest))))
    (Err (no w Record (here end (e ∷ es))))

-- What is still to be read gives the answer.
pub record Goes (w : Wanted) (end room : ℕ) (answer : Result (List Entry) Refusal) (k : ℕ) (el : Elder) (es : List Entry) : Type 0 where
  pub is : answer ≡ rests (read w end room k el es)

module _ {w : Wanted} {end room : ℕ} {answer : Result (List Entry) Refusal} where
  pub seen : {k : ℕ} {el : Elder} {es fs : List Entry} → es ≡ fs → Goes w end room answer k el es → Goes w end room answer k el fs
  seen {k} {el} p g = record { is = g.is ∙ ap (λ x. rests (read w end room k el x)) p }

  pub fewer : {k j : ℕ} {el : Elder} {es : List Entry} → k ≡ j → Goes w end room answer k el es → Goes w end room answer j el es
  fewer {el = el} {es = es} p g = record { is = g.is ∙ ap (λ x. rests (read w end room x el es)) p }

  pub ran_out : {k : ℕ} {el : Elder} {es : List Entry} → 0 < k → es ≡ [] → Goes w end room answer k el es → answer ≡ Err (no w Count (here end es))
  ran_out {k} {el} {es} l p g = go k l (seen p g) ∙ ap (λ x. Err (no w Count (here end x))) (sym p)
    where
      go : (k : ℕ) → 0 < k → Goes w end room answer k el [] → answer ≡ Err (no w Count (here end []))
      go zero l g = absurd (omega arith)
      go (suc k) l g = g.is

  pub too_deep : {k : ℕ} {el : Elder} {e : Entry} {es : List Entry} → 0 < k → room ≡ 0 → Goes w end room answer k el (e ∷ es) → answer ≡ Err (no w Depth (here end (e ∷ es)))
  too_deep {k} {el} {e} {es} l z g = go k l g
    where
      go : (k : ℕ) → 0 < k → Goes w end room answer k el (e ∷ es) → answer ≡ Err (no w Depth (here end (e ∷ es)))
      go zero l g = absurd (omega arith)
      go (suc k) l g = g.is ∙ ap (λ r. rests (read w end r (suc k) el (e ∷ es))) z

  tested : {k : ℕ} {el : Elder} {e : Entry} {es : List Entry} {b : Bool} → 0 < k → 0 < room → b ≡ right w.kind el e → Goes w end room answer k el (e ∷ es)
      → answer ≡ rests (tried w end (room - 1) (k - 1) e es b)
  tested {k} {el} {e} {es} {b} l m q g = go k room l m refl g
    where
      go : (k r : ℕ) → 0 < k → 0 < r → r ≡ room → Goes w end room answer k el (e ∷ es) → answer ≡ rests (tried w end (r - 1) (k - 1) e es b)
      go zero r l m i g = absurd (omega arith)
      go (suc k) zero l m i g = absurd (omega arith)
      go (suc k) (suc r) l m i g =
          let x : r ≡ suc r - 1 = omega arith in
          let y : k ≡ suc k - 1 = omega arith in
          g.is ∙ ap (λ x. rests (read w end x (suc k) el (e ∷ es))) (sym i) ∙ ap (λ c. rests (tried w end r k e es c)) (sym q) ∙ ap (λ x. rests (tried w end x k e es b)) x
          ∙ ap (λ y. rests (tried w end (suc r - 1) y e es b)) y

  pub wrong : {k : ℕ} {el : Elder} {e : Entry} {es : List Entry} → 0 < k → 0 < room → false ≡ right w.kind el e → Goes w end room answer k el (e ∷ es)
      → answer ≡ Err (no w Record (here end (e ∷ es)))
  wrong l m q g = tested l m q g

  pub refused_below : {k : ℕ} {el : Elder} {e : Entry} {es : List Entry} {d : Refusal} → 0 < k → 0 < room → true ≡ right w.kind el e → Goes w end room answer k el (e ∷ es)
      → rests (read w end (room - 1) e.children First es) ≡ Err d → answer ≡ Err d
  refused_below {k} {el} {e} {es} {d} l m q g h = tested l m q g ∙ after_err (read w end (room - 1) e.children First es) _ d h

  pub next : {k : ℕ} {el : Elder} {e : Entry} {es more : List Entry} → 0 < k → 0 < room → true ≡ right w.kind el e → Goes w end room answer k el (e ∷ es)
      → rests (read w end (room - 1) e.children First es) ≡ Ok more → Goes w end room answer (k - 1) (After e.name) more
  next {k} {el} {e} {es} {more} l m q g h =
      let x : suc (room - 1) ≡ room = omega arith in
      record {
        is = tested l m q g
            ∙ after_ok (read w end (room - 1) e.children First es) (λ x. read w end (suc (room - 1)) (k - 1) (After e.name) x) (λ g h. child e.name (planted e g.row) h.row) more h
            ∙ ap (λ x. rests (read w end x (k - 1) (After e.name) more)) x;
      }

-- The last sibling is followed by what is below it alone.
only_below : (r : Result Grown Refusal) (row : Grown → Grown → Forest) → rests (then r (λ g. then (Ok (grown empty g.rest)) (λ h. Ok (grown (row g h) h.rest)))) ≡ rests r
only_below (Ok g) row = refl
only_below (Err d) row = refl

module _ {w : Wanted} {end room : ℕ} {answer : Result (List Entry) Refusal} where
  pub last : {k : ℕ} {el : Elder} {e : Entry} {es : List Entry} → k ≡ 1 → 0 < room → true ≡ right w.kind el e → Goes w end room answer k el (e ∷ es) → Goes w end (room - 1) answer e.children First es
  last {k} {el} {e} {es} l m q g =
      let z : k - 1 ≡ 0 = omega arith in
      record {
        is = tested (omega arith) m q g ∙ ap (λ j. rests (tried w end (room - 1) j e es true)) z
            ∙ only_below (read w end (room - 1) e.children First es) (λ g h. child e.name (planted e g.row) h.row);
      }

pub begun : {w : Wanted} {end room : ℕ} (k : ℕ) {el : Elder} {es : List Entry} → Goes w end room (rests (read w end room k el es)) (k - 0) el es
begun k = fewer (omega arith) (record { is = refl })

pub done : {w : Wanted} {end room : ℕ} {answer : Result (List Entry) Refusal} {k : ℕ} {el : Elder} {es : List Entry} → k ≡ 0 → Goes w end room answer k el es → answer ≡ Ok es
done z g = (fewer z g).is

-- No siblings are read from the records that are there.
pub no_more : (w : Wanted) (end room k : ℕ) (el : Elder) (es : List Entry) → k ≤ 0 → rests (read w end room k el es) ≡ Ok es
no_more w end room k el es l = let z : k ≡ 0 = omega arith in ap (λ j. rests (read w end room j el es)) z
