-- A tree without a fault obeys, and the other way round.
use Rattle.std.proofs.Common.{◌≡◌, ℕ, ◌+◌, Bool, true, false, cond, T, Some, None, Option, refl, arith}
use Rattle.model.specs.Trees.{Tree, missing, mark, node, Forest, empty, child, names, nodes}
use Rattle.model.specs.Meaning.{Meaning, class_under, allowed, Obeys, ObeyAll}
use Rattle.model.specs.Faults.{or_else, fault_from, fault_among, NoFaultIsObeying}

none_left : (a b : Option ℕ) → or_else a b ≡ None → a ≡ None
none_left None b e = refl
none_left (Some n) b e = e

none_right : (a b : Option ℕ) → or_else a b ≡ None → b ≡ None
none_right None b e = e
none_right (Some n) b e = let z : ◌≡◌ {A = ℕ} 0 1 = cc in absurd (omega arith)

both_none : (a b : Option ℕ) → a ≡ None → b ≡ None → or_else a b ≡ None
both_none None b p q = q
both_none (Some n) b p q = p

allowed_none : (b : Bool) (o : Option ℕ) (n : ℕ) → cond b o (Some n) ≡ None → T b × (o ≡ None)
allowed_none true o n e = (tt, e)
allowed_none false o n e = let z : ◌≡◌ {A = ℕ} 0 1 = cc in absurd (omega arith)

none_allowed : (b : Bool) (o : Option ℕ) (n : ℕ) → T b → o ≡ None → cond b o (Some n) ≡ None
none_allowed true o n h e = e
none_allowed false o n h e = absurd h

mutual
  pub obeys_from : (m : Meaning) (c : Option ℕ) (t : Tree) (n : ℕ) → fault_from m c t n ≡ None → Obeys m c t
  obeys_from m c missing n e = tt
  obeys_from m c mark n e = let z : ◌≡◌ {A = ℕ} 0 1 = cc in absurd (omega arith)
  obeys_from m c (node f) n e =
      let p = allowed_none (allowed m c (names f)) (fault_among m c f (n + 1)) n e in
      (p.0, obey_among m c f (n + 1) p.1)

  obey_among : (m : Meaning) (c : Option ℕ) (f : Forest) (n : ℕ) → fault_among m c f n ≡ None → ObeyAll m c f
  obey_among m c empty n e = tt
  obey_among m c (child k t f) n e = (
    obeys_from m (class_under m c k) t n (none_left (fault_from m (class_under m c k) t n) _ e),
    obey_among m c f (n + nodes t) (none_right (fault_from m (class_under m c k) t n) _ e),
  )

mutual
  pub no_fault : (m : Meaning) (c : Option ℕ) (t : Tree) (n : ℕ) → Obeys m c t → fault_from m c t n ≡ None
  no_fault m c missing n h = refl
  no_fault m c mark n h = absurd h
  no_fault m c (node f) n h = none_allowed (allowed m c (names f)) (fault_among m c f (n + 1)) n h.0 (no_faults m c f (n + 1) h.1)

  no_faults : (m : Meaning) (c : Option ℕ) (f : Forest) (n : ℕ) → ObeyAll m c f → fault_among m c f n ≡ None
  no_faults m c empty n h = refl
  no_faults m c (child k t f) n h = both_none _ _ (no_fault m (class_under m c k) t n h.0) (no_faults m c f (n + nodes t) h.1)

pub no_fault_is_obeying : NoFaultIsObeying
no_fault_is_obeying m c t = (obeys_from m c t 0, no_fault m c t 0)
