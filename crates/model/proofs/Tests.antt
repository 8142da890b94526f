-- Tests that tell whether a tree is sound and whether it obeys; the eight cases pass them.
use Rattle.std.proofs.Common.{◌≡◌, ℕ, Bool, true, false, ◌&&◌, List, [], ◌∷◌, Some, Option, refl, arith}
use Rattle.std.proofs.lemmas.Bool.{and_parts}
use Rattle.model.specs.Trees.{Tree, missing, mark, node, Forest, empty, child, names, present, WellFormed, WellFormedAll}
use Rattle.model.specs.Meaning.{Meaning, class_under, allowed, Obeys, ObeyAll}
use Rattle.model.specs.Rulebooks.{ascending, plate_meaning}
use Rattle.model.specs.Worked.{Worked, WorkedRoundsAreReady, AllReady, worked_rounds}
use Rattle.model.proofs.Place.{true_T}
use Rattle.model.proofs.Rulebooks.{ascending_is}

abbrev mutual
  pub is_sound : Tree → Bool
  is_sound missing = true
  is_sound mark = true
  is_sound (node f) = ascending (names f) && are_sound f

  pub are_sound : Forest → Bool
  are_sound empty = true
  are_sound (child n t f) = present t && is_sound t && are_sound f

abbrev mutual
  pub obeys : Tree → Meaning → Option ℕ → Bool
  obeys missing m c = true
  obeys mark m c = false
  obeys (node f) m c = allowed m c (names f) && all_obey f m c

  pub all_obey : Forest → Meaning → Option ℕ → Bool
  all_obey empty m c = true
  all_obey (child k t f) m c = obeys t m (class_under m c k) && all_obey f m c

mutual
  pub sound_yes : (t : Tree) → is_sound t ≡ true → WellFormed t
  sound_yes missing e = tt
  sound_yes mark e = tt
  sound_yes (node f) e =
      let p = and_parts (ascending (names f)) (are_sound f) e in
      (ascending_is (names f) p.0, sounds_yes f p.1)

  pub sounds_yes : (f : Forest) → are_sound f ≡ true → WellFormedAll f
  sounds_yes empty e = tt
  sounds_yes (child n t f) e =
      let p = and_parts (present t && is_sound t) (are_sound f) e in
      let q = and_parts (present t) (is_sound t) p.0 in
      (true_T (present t) q.0, sound_yes t q.1, sounds_yes f p.1)

mutual
  pub obeys_yes : (t : Tree) (m : Meaning) (c : Option ℕ) → obeys t m c ≡ true → Obeys m c t
  obeys_yes missing m c e = tt
  obeys_yes mark m c e = let z : ◌≡◌ {A = ℕ} 0 1 = cc in omega arith
  obeys_yes (node f) m c e =
      let p = and_parts (allowed m c (names f)) (all_obey f m c) e in
      (true_T (allowed m c (names f)) p.0, all_yes f m c p.1)

  pub all_yes : (f : Forest) (m : Meaning) (c : Option ℕ) → all_obey f m c ≡ true → ObeyAll m c f
  all_yes empty m c e = tt
  all_yes (child k t f) m c e =
      let p = and_parts (obeys t m (class_under m c k)) (all_obey f m c) e in
      (obeys_yes t m (class_under m c k) p.0, all_yes f m c p.1)

abbrev ready_test : List Worked → Bool
ready_test [] = true
ready_test (c ∷ cs) =
    is_sound c.archive
    && is_sound c.field
    && is_sound c.bench
    && obeys c.field plate_meaning (Some 0)
    && obeys c.bench plate_meaning (Some 0)
    && ready_test cs

ready_yes : (cs : List Worked) → ready_test cs ≡ true → AllReady cs
ready_yes [] e = tt
ready_yes (c ∷ cs) e =
    let p = and_parts (is_sound c.archive && is_sound c.field && is_sound c.bench && obeys c.field plate_meaning (Some 0) && obeys c.bench plate_meaning (Some 0)) (ready_test cs) e in
    let q = and_parts (is_sound c.archive && is_sound c.field && is_sound c.bench && obeys c.field plate_meaning (Some 0)) (obeys c.bench plate_meaning (Some 0)) p.0 in
    let r = and_parts (is_sound c.archive && is_sound c.field && is_sound c.bench) (obeys c.field plate_meaning (Some 0)) q.0 in
    let s = and_parts (is_sound c.archive && is_sound c.field) (is_sound c.bench) r.0 in
    let t = and_parts (is_sound c.archive) (is_sound c.field) s.0 in (
      record {
        archive_formed = sound_yes c.archive t.0;
        field_formed = sound_yes c.field t.1;
        bench_formed = sound_yes c.bench s.1;
        field_obeys = obeys_yes c.field plate_meaning (Some 0) r.1;
        bench_obeys = obeys_yes c.bench plate_meaning (Some 0) q.1;
      },
      ready_yes cs p.1,
    )

pub worked_rounds_are_ready : WorkedRoundsAreReady
worked_rounds_are_ready = ready_yes worked_rounds refl
