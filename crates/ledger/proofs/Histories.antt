-- What stands after every list of calls is sound, so what holds of a round holds of every round drawn.
use Rattle.std.proofs.Common.{◌≡◌, ℕ, List, [], ◌∷◌, Ok, Err, Result, subst}
use Rattle.model.specs.Meaning.{Meaning}
use Rattle.model.specs.Round.{Outcome, round}
use Rattle.model.proofs.Theorems as theorems
use Rattle.refusals.specs.declared.Refusal.{Refusal}
use Rattle.records.proofs.Laws.{Holds}
use Rattle.ledger.specs.declared.Call.{Call}
use Rattle.ledger.specs.declared.Call.TheVariants.{Load, Put, Strike, Draw, Adopt, Drop}
use Rattle.ledger.specs.Answers.{load_answer, put_answer, strike_answer, left}
use Rattle.ledger.specs.Ledger.{State, file, drawn, held, start, step, stands}
use Rattle.ledger.specs.Histories.{RoundDrawn, CopiesObeyAfter, RoundsAreMarkedAtConflicts, RoundsAreSafe, NoRivalDoesMore}
use Rattle.ledger.proofs.Sound.{Sound, load_sound, put_sound, strike_sound, draw_is_round, draw_sound}

-- A file holds sound trees; a round was drawn from such trees, and came to such trees if it was not refused.
abbrev pub SoundState : Meaning → State → Type 0
SoundState m (file s) = Sound m s
SoundState m (drawn s r) = Sound m s × Holds r (Sound m)

pub sound_left : (m : Meaning) (s : Outcome) (r : Result Outcome Refusal) → Sound m s → Holds r (Sound m) → Sound m (left s r)
sound_left m s (Ok t) h k = k
sound_left m s (Err e) h k = h

pub sound_held : (m : Meaning) (s : State) → SoundState m s → Sound m (held s)
sound_held m (file s) h = h
sound_held m (drawn s r) h = sound_left m s r h.0 h.1

pub sound_start : (m : Meaning) → SoundState m start
sound_start m = record { archive_formed = tt; field_formed = tt; bench_formed = tt; field_obeys = tt; bench_obeys = tt }

pub sound_step : (m : Meaning) (l : ℕ) (s : State) (c : Call) → SoundState m s → SoundState m (step m l s c)
sound_step m l (file s) (Load o a b) h = sound_left m s (load_answer m l o.now a.now b.now) h (load_sound m l o.now a.now b.now)
sound_step m l (file s) (Put e p bs) h = sound_left m s (put_answer m l s e p.now bs.now) h (put_sound m l s e p.now bs.now h)
sound_step m l (file s) (Strike e p) h = sound_left m s (strike_answer m s e p.now) h (strike_sound m s e p.now h)
sound_step m l (file s) Draw h = (h, draw_sound m l s h)
sound_step m l (file s) Adopt h = h
sound_step m l (file s) Drop h = h
sound_step m l (drawn s r) (Load o a b) h = h
sound_step m l (drawn s r) (Put e p bs) h = h
sound_step m l (drawn s r) (Strike e p) h = h
sound_step m l (drawn s r) Draw h = h
sound_step m l (drawn s r) Adopt h = sound_left m s r h.0 h.1
sound_step m l (drawn s r) Drop h = h.0

pub sound_stands : (m : Meaning) (l : ℕ) (s : State) (calls : List Call) → SoundState m s → SoundState m (stands m l s calls)
sound_stands m l s [] h = h
sound_stands m l s (c ∷ calls) h = sound_stands m l (step m l s c) calls (sound_step m l s c h)

pub copies_obey : (m : Meaning) (l : ℕ) (calls : List Call) → CopiesObeyAfter m l calls
copies_obey m l calls =
    let h = sound_held m (stands m l start calls) (sound_stands m l start calls (sound_start m)) in
    record { field = h.field_obeys; bench = h.bench_obeys }

-- A round is drawn from sound trees, and comes to what the model's round makes of them.
pub drawn_from_sound : {m : Meaning} {l : ℕ} {calls : List Call} {s r : Outcome} → RoundDrawn m l calls s r → Sound m s
drawn_from_sound {m} {l} d = subst (SoundState m) d.stood (sound_stands m l start d.before (sound_start m))

pub drawn_is_round :
    {m : Meaning} {l : ℕ} {calls : List Call} {s r : Outcome} → RoundDrawn m l calls s r → r ≡ round m s.archive s.field s.bench
drawn_is_round {m} {l} {s = s} d =
    subst (λ x. Holds x (λ r. r ≡ round m s.archive s.field s.bench)) d.came (draw_is_round m l s)

pub rounds_are_marked_at_conflicts : (m : Meaning) (l : ℕ) (calls : List Call) → RoundsAreMarkedAtConflicts m l calls
rounds_are_marked_at_conflicts m l calls s r d p =
    rw (drawn_is_round d) (theorems.marked_exactly_at_conflicts m s.archive s.field s.bench (drawn_from_sound d) p)

pub rounds_are_safe : (m : Meaning) (l : ℕ) (calls : List Call) → RoundsAreSafe m l calls
rounds_are_safe m l calls s r d = rw (drawn_is_round d) (theorems.outcome_is_safe m s.archive s.field s.bench (drawn_from_sound d))

pub no_rival_does_more : (m : Meaning) (l : ℕ) (calls : List Call) → NoRivalDoesMore m l calls
no_rival_does_more m l calls s r d rival safe =
    rw (drawn_is_round d) (theorems.no_rival_does_more m s.archive s.field s.bench (drawn_from_sound d) rival safe)
