-- The first fault is the lowest: it may be sought in any order.
use Rattle.std.proofs.Common.{◌≡◌, ℕ, ◌+◌, ◌<◌, ◌≤◌, Bool, true, false, cond, Some, None, Option, refl, ap, ◌∙◌, arith}
use Rattle.model.specs.Trees.{Tree, missing, mark, node, Forest, empty, child, names, nodes, nodes_all}
use Rattle.model.specs.Meaning.{Meaning, class_under, allowed}
use Rattle.model.specs.Faults.{or_else, fault_from, fault_among}
use Rattle.obeying.specs.Lower.{lower, own}

pub lower_none : (a : Option ℕ) → lower a None ≡ a
lower_none None = refl
lower_none (Some a) = refl

pub lower_assoc : (a b c : Option ℕ) → lower (lower a b) c ≡ lower a (lower b c)
lower_assoc None b c = refl
lower_assoc (Some a) None c = refl
lower_assoc (Some a) (Some b) None = refl
lower_assoc (Some a) (Some b) (Some c) = ap Some (omega arith)

-- A number that is there lies in a range.
abbrev Between : ℕ → ℕ → Option ℕ → Type 0
Between lo hi None = Unit {0}
Between lo hi (Some k) = (lo ≤ k) × (k < hi)

wider : (lo hi lo' hi' : ℕ) (o : Option ℕ) → Between lo hi o → lo' ≤ lo → hi ≤ hi' → Between lo' hi' o
wider lo hi lo' hi' None b p q = tt
wider lo hi lo' hi' (Some k) b p q = (omega (arith, b.0), omega (arith, b.1))

or_between : (lo hi : ℕ) (a b : Option ℕ) → Between lo hi a → Between lo hi b → Between lo hi (or_else a b)
or_between lo hi None b x y = y
or_between lo hi (Some k) b x y = x

cond_between : (lo hi : ℕ) (t : Bool) (a b : Option ℕ) → Between lo hi a → Between lo hi b → Between lo hi (cond t a b)
cond_between lo hi true a b x y = x
cond_between lo hi false a b x y = y

mutual
  from_between : (m : Meaning) (c : Option ℕ) (t : Tree) (n : ℕ) → Between n (n + nodes t) (fault_from m c t n)
  from_between m c missing n = tt
  from_between m c mark n = (omega arith, omega arith)
  from_between m c (node f) n =
      cond_between n (n + nodes (node f)) (allowed m c (names f)) (fault_among m c f (n + 1)) (Some n)
      (wider (n + 1) (n + 1 + nodes_all f) n (n + nodes (node f)) (fault_among m c f (n + 1)) (among_between m c f (n + 1)) (omega arith) (omega arith))
      (omega arith, omega arith)

  among_between : (m : Meaning) (c : Option ℕ) (f : Forest) (n : ℕ) → Between n (n + nodes_all f) (fault_among m c f n)
  among_between m c empty n = tt
  among_between m c (child k t f) n =
      or_between n (n + (nodes t + nodes_all f)) (fault_from m (class_under m c k) t n) (fault_among m c f (n + nodes t))
      (wider n (n + nodes t) n (n + (nodes t + nodes_all f)) (fault_from m (class_under m c k) t n) (from_between m (class_under m c k) t n) (omega arith) (omega arith))
      (wider (n + nodes t) (n + nodes t + nodes_all f) n (n + (nodes t + nodes_all f)) (fault_among m c f (n + nodes t)) (among_between m c f (n + nodes t)) (omega arith) (omega arith))

-- The lowest fault, put together from the bottom up.
abbrev mutual
  pub lowest : Meaning → Option ℕ → Tree → ℕ → Option ℕ
  lowest m c missing n = None
  lowest m c mark n = Some n
  lowest m c (node f) n = lower (lowest_among m c f (n + 1)) (own m c n (names f))

  pub lowest_among : Meaning → Option ℕ → Forest → ℕ → Option ℕ
  lowest_among m c empty n = None
  lowest_among m c (child k t f) n = lower (lowest m (class_under m c k) t n) (lowest_among m c f (n + nodes t))

lower_first : (lo mid hi : ℕ) (a b : Option ℕ) → Between lo mid a → Between mid hi b → lower a b ≡ or_else a b
lower_first lo mid hi None b x y = refl
lower_first lo mid hi (Some i) None x y = refl
lower_first lo mid hi (Some i) (Some j) x y = ap Some (omega (arith, x.1, y.0))

lower_own : (b : Bool) (n hi : ℕ) (o : Option ℕ) → Between (n + 1) hi o → lower o (cond b None (Some n)) ≡ cond b o (Some n)
lower_own true n hi o x = lower_none o
lower_own false n hi None x = refl
lower_own false n hi (Some k) x = ap Some (omega (arith, x.0))

mutual
  pub lowest_is_first : (m : Meaning) (c : Option ℕ) (t : Tree) (n : ℕ) → lowest m c t n ≡ fault_from m c t n
  lowest_is_first m c missing n = refl
  lowest_is_first m c mark n = refl
  lowest_is_first m c (node f) n =
      ap (λ o. lower o (own m c n (names f))) (among_is_first m c f (n + 1))
      ∙ lower_own (allowed m c (names f)) n (n + 1 + nodes_all f) (fault_among m c f (n + 1)) (among_between m c f (n + 1))

  among_is_first : (m : Meaning) (c : Option ℕ) (f : Forest) (n : ℕ) → lowest_among m c f n ≡ fault_among m c f n
  among_is_first m c empty n = refl
  among_is_first m c (child k t f) n =
      ap (λ o. lower o (lowest_among m c f (n + nodes t))) (lowest_is_first m (class_under m c k) t n)
      ∙ ap (lower (fault_from m (class_under m c k) t n)) (among_is_first m c f (n + nodes t))
      ∙ lower_first n (n + nodes t) (n + nodes t + nodes_all f) (fault_from m (class_under m c k) t n) (fault_among m c f (n + nodes t)) (from_between m (class_under m c k) t n) (among_between m c f (n + nodes t))
