-- A list of calls, one after the other.
use Rattle.std.proofs.Common.{◌≡◌, ℕ, zero, suc, ◌+◌, ◌<◌, ◌≤◌, List, [], ◌∷◌, ◌++◌, length, get_or, drop, Some, None, Ok, Err, Option, Result, sym, refl, ap, ◌∙◌, arith, Bor}
use Rattle.std.proofs.lemmas.List.{at_drop_more, at_drop_all, append-nil, append_assoc}
use Rattle.std.specs.Prelude.{IfSome, IsSomeAnd, MatchOption, IsTrue}
use Rattle.std.specs.Option.{option_map}
use Rattle.std.specs.Iterator.Runs.{Run, ItemsMapTo, CallKeepsClosure, AllItemsGive, IsFirstToGive}
use denote.Param.Members.{Mut, Called}
use Rattle.model.specs.Trees.{missing, marks}
use Rattle.model.specs.Meaning.{Meaning}
use Rattle.model.specs.Round.{Outcome, outcome}
use Rattle.records.specs.Reading.{then}
use Rattle.refusals.specs.declared.Refusal.{Refusal}
use Rattle.ledger.specs.declared.Call.{Call}
use Rattle.ledger.specs.declared.Answer.{Answer}
use Rattle.ledger.specs.declared.Answer.TheVariants.{Edited, Drawn}
use Rattle.ledger.specs.declared.Call.TheVariants.{Load, Draw}
use Rattle.ledger.specs.Answers.{load_answer, draw_answer, left as left_of, told as told_of}
use Rattle.ledger.specs.Ledger.{State, drawn, start, refusal_of, refused_in, step, answer, stands, answers}
use Rattle.service.specs.Service.{reported}
use Rattle.history.specs.Desks.{first_refused, replay_report}

-- What is left to do comes to what the whole comes to.
pub record Going (m : Meaning) (l : ℕ) (calls : List Call) (i : ℕ) (first now : State) (given : List Answer) : Type 0 where
  pub state : stands m l now (drop i calls) ≡ stands m l first calls
  pub told : given ++ answers m l now (drop i calls) ≡ answers m l first calls

pub begins : (m : Meaning) (l : ℕ) (calls : List Call) (s : State) → Going m l calls 0 s s []
begins m l calls s = record { state = refl; told = refl }

-- One call more.
pub goes_on : {m : Meaning} {l : ℕ} {calls : List Call} {i : ℕ} {first now : State} {given : List Answer} (d : Call) (k : ℕ) (next : State) (a : Answer) (more : List Answer)
    → Going m l calls i first now given → i < length calls → k ≡ l → next ≡ step m k now (get_or calls i d) → a ≡ answer m k now (get_or calls i d) → more ≡ given ++ a ∷ []
    → Going m l calls (i + 1) first next more
goes_on {m} {l} {calls} {i} {first} {now} {given} d k next a more g h e p q r =
    let x = get_or calls i d in
    let p' : next ≡ step m l now x = p ∙ ap (λ j. step m j now x) e in
    let q' : a ≡ answer m l now x = q ∙ ap (λ j. answer m j now x) e in
    let rest = drop (i + 1) calls in
    record {
      state = ap (λ s. stands m l s rest) p' ∙ sym (at_drop_more (stands m l now) calls i d h) ∙ g.state;
      told =
          ap (λ xs. xs ++ answers m l next rest) r
          ∙ append_assoc given (a ∷ []) (answers m l next rest)
          ∙ ap (λ xs. given ++ xs) (ap (λ s. a ∷ answers m l s rest) p' ∙ ap (λ y. y ∷ answers m l (step m l now x) rest) q' ∙ sym (at_drop_more (answers m l now) calls i d h))
          ∙ g.told;
    }

-- No call is left.
pub ends : {m : Meaning} {l : ℕ} {calls : List Call} {i : ℕ} {first now : State} {given : List Answer} → Going m l calls i first now given → length calls ≤ i
    → (now ≡ stands m l first calls) × (given ≡ answers m l first calls)
ends {m} {l} {calls} {i} {first} {now} {given} g h = (
  sym (at_drop_all (stands m l now) calls i h) ∙ g.state,
  sym (append-nil given) ∙ ap (λ xs. given ++ xs) (sym (at_drop_all (answers m l now) calls i h)) ∙ g.told,
)

-- Where the first refusal among answers stands, or that there is none.
abbrev or_later : List Answer → Option Refusal → Option Refusal
or_later more o = elim o [ Some e ↦ Some e | None ↦ first_refused more ]

none_refused : (xs : List Answer) → ((k : ℕ) (d : Answer) → k < length xs → refused_in (get_or xs k d) ≡ None) → first_refused xs ≡ None
none_refused [] h = refl
none_refused (x ∷ xs) h =
    ap (or_later xs) (h 0 x (omega arith)) ∙ none_refused xs (λ k d b. h (suc k) d (omega arith))

first_at : (xs : List Answer) (i : ℕ) (e : Refusal) → i < length xs → ((k : ℕ) (d : Answer) → k < i → refused_in (get_or xs k d) ≡ None)
    → ((d : Answer) → refused_in (get_or xs i d) ≡ Some e) → first_refused xs ≡ Some e
first_at [] i e b h q = absurd (omega arith)
first_at (x ∷ xs) zero e b h q = ap (or_later xs) (q x)
first_at (x ∷ xs) (suc i) e b h q =
    ap (or_later xs) (h 0 x (omega arith)) ∙ first_at xs i e (omega arith) (λ k d l. h (suc k) d (omega arith)) q

-- A search of the answers, each asked for its refusal, gives the first.
module _ {S F : Type 0} {steps : S → Option (Bor Answer) → S → Type 0} (p : Run steps) (xs : List Answer) (items : ItemsMapTo p (λ y. y.now) xs)
    (g : Mut F (Bor Answer × Unit {0}) (Option Refusal)) (f : F)
    (asks : (x : Bor Answer) (r : Option Refusal) (h : F) → Called g f (x, tt) r h → (h ≡ f) × (r ≡ refused_in x.now)) where
  keeps : CallKeepsClosure g f
  keeps a r h k = (asks a.0 r h k).0

  told_of_item : (o : Option (Bor Answer)) (a : Answer) (r : Option Refusal) → option_map (λ y. y.now) o ≡ Some a → IfSome o (λ x. Called g f (x, tt) r f)
      → refused_in a ≡ r
  told_of_item None a r e h = cc
  told_of_item (Some x) a r e h = let is : x.now ≡ a = cc in ap refused_in (sym is) ∙ sym (asks x r f h).1

  if_some : (o : Option (Bor Answer)) (r : Option Refusal) → IsSomeAnd o (λ x. Called g f (x, tt) r f) → IfSome o (λ x. Called g f (x, tt) r f)
  if_some None r h = absurd h
  if_some (Some x) r h = h

  pub finds : (r : Option Refusal)
      → MatchOption r (IsTrue p.whole × AllItemsGive p g f None) (λ y. (i : ℕ) × (i < p.len) × (p.len ≡ i + 1) × IsFirstToGive p g f (Some y) None i)
      → r ≡ first_refused xs
  finds None h = sym (none_refused xs (λ k d b. told_of_item (p.at k) _ None (items.2 k d (omega (arith, items.1 h.0))) (h.1 keeps k)))
  finds (Some e) h =
      let is = h.3 keeps in
      sym (first_at xs h.0 e (omega (arith, h.1, items.0))
      (λ k d b. told_of_item (p.at k) _ None (items.2 k d (omega (arith, h.1))) (if_some (p.at k) None (is.1 k b)))
      (λ d. told_of_item (p.at h.0) _ (Some e) (items.2 h.0 d h.1) (if_some (p.at h.0) (Some e) is.0)))

abbrev none : Outcome
none = outcome missing missing missing

-- What is reported of a load and a draw: the line of the first refusal, or the outcome.
pub reports_first : (m : Meaning) (l : ℕ) (o a b : Bor (List ℕ))
    → replay_report (first_refused (answers m l start (Load o a b ∷ Draw ∷ []))) (stands m l start (Load o a b ∷ Draw ∷ []))
    ≡ reported (then (load_answer m l o.now a.now b.now) (draw_answer m l))
reports_first m l o a b = go (load_answer m l o.now a.now b.now)
  where
    go : (x : Result Outcome Refusal)
        → replay_report (first_refused (Edited (told_of x) ∷ Drawn (refusal_of (draw_answer m l (left_of none x))) (marks (left_of (left_of none x) (draw_answer m l (left_of none x))).archive) ∷ []))
        (drawn (left_of none x) (draw_answer m l (left_of none x)))
        ≡ reported (then x (draw_answer m l))
    go (Ok t) = refl
    go (Err e) = refl
