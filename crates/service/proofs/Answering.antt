-- The answers of put and strike, test by test.
use Rattle.std.proofs.Common.{◌≡◌, ℕ, ◌≤◌, Bool, true, List, length, Some, Ok, Err, Option, Result, sym, refl, ap, ◌∙◌}
use Rattle.model.specs.Trees.{Tree as TheTree, missing, Path, present, at}
use Rattle.model.specs.Meaning.{Meaning, class_at}
use Rattle.model.specs.Edits.{HasParent}
use Rattle.model.proofs.Place.{true_T}
use Rattle.model.specs.Round.{Outcome}
use Rattle.refusals.specs.declared.Refusal.{Refusal}
use Rattle.refusals.specs.declared.Whose.{Whose}
use Rattle.refusals.specs.declared.Whose.TheVariants as whose
use Rattle.records.specs.Files.{Fits}
use Rattle.records.specs.Reading.{says, then, passed}
use Rattle.obeying.specs.Lawful.{lawful, copy_of}
use Rattle.ledger.specs.declared.Side.{Side}
use Rattle.ledger.specs.Answers.{whose_of, copy, both_obey, leads, parent_stands, parent_allows, last_name, put_answer, strike_answer}
use Rattle.service.specs.declared.types.File.{File}
use Rattle.service.specs.declared.types.Change.TheVariants.{Put, Strike}
use Rattle.service.specs.Service.{trees, limit, Same}
use Rattle.service.specs.Edits.{changed, edited, replaced, Replaces}
use Rattle.service.proofs.Chains.{ok_first, two_fail, two_pass, passed_ok, Led, led}
use Rattle.service.proofs.Kept.{copy_unmarked}
use Rattle.service.proofs.Files.{kept, as_before}
use Rattle.service.proofs.Ways.{parented}

-- The tests that ask for no record file, all passed.
pub record Passed (m : Meaning) (s : Outcome) (e : Side) (p : Path) (there : Bool) (change : List ℕ → List ℕ) : Type 0 where
  pub obey : (x : Outcome) × (both_obey m s ≡ Ok x)
  pub leads_there : (x : TheTree) × (leads (whose_of e) (copy e s) p there ≡ Ok x)
  pub allowed : (x : TheTree) × (parent_allows m (whose_of e) (copy e s) p change ≡ Ok x)

-- They were made one after the other, on files with the same trees.
pub all_passed : {m : Meaning} {f g : File} {e : Side} {p : Path} {b : Bool} {change : List ℕ → List ℕ} (there : TheTree → Bool) → Same f g
    → Ok (tt {0}) ≡ passed (tt {0}) (both_obey m (trees f))
    → b ≡ there (copy e (trees g)) → Ok (tt {0}) ≡ passed (tt {0}) (leads (whose_of e) (copy e (trees g)) p b)
    → Ok (tt {0}) ≡ passed (tt {0}) (parent_allows m (whose_of e) (copy e (trees g)) p change)
    → Passed m (trees f) e p (there (copy e (trees f))) change
all_passed {m} {f} {g} {e = e} {p = p} {change = change} there same obey is lead allow =
    let w = whose_of e in
    record {
      obey = passed_ok (both_obey m (trees f)) obey;
      leads_there = passed_ok (leads w (copy e (trees f)) p (there (copy e (trees f))))
          (as_before (λ s. Ok (tt {0}) ≡ passed (tt {0}) (leads w (copy e s) p (there (copy e s)))) same
          (lead ∙ ap (λ x. passed (tt {0}) (leads w (copy e (trees g)) p x)) is));
      allowed = passed_ok (parent_allows m w (copy e (trees f)) p change)
          (as_before (λ s. Ok (tt {0}) ≡ passed (tt {0}) (parent_allows m w (copy e s) p change)) same allow);
    }

module _ {m : Meaning} {s : Outcome} {e : Side} {p : Path} (x : Passed m s e p (present (at (copy e s) p)) (changed Strike (last_name p))) where
  pub strike_done : strike_answer m s e p ≡ Ok (edited s e p missing)
  strike_done = ok_first _ x.obey.1 ∙ ok_first _ x.leads_there.1 ∙ ok_first _ x.allowed.1

module _ {m : Meaning} {s : Outcome} {e : Side} {p : Path} (x : Passed m s e p (parent_stands (copy e s) p) (changed Put (last_name p)))
    (l : ℕ) (bytes : List ℕ) (c : Option ℕ) (class : c ≡ class_at m (Some 0) p) where
  -- The tree that a put brings, read and held to the class of its place.
  abbrev pub brought : Result TheTree Refusal
  brought = then (says bytes (copy_of whose.Brought (length p))) (lawful m c whose.Brought)

  goes_on : put_answer m l s e p bytes
      ≡ then (says bytes (copy_of whose.Brought (length p))) (λ u. then (lawful m c whose.Brought u) (replaced l s e p))
  goes_on =
      ok_first _ x.obey.1 ∙ ok_first _ x.leads_there.1 ∙ ok_first _ x.allowed.1
      ∙ ap (λ k. then (says bytes (copy_of whose.Brought (length p))) (λ u. then (lawful m k whose.Brought u) (replaced l s e p))) (sym class)

  pub put_unread : {d : Refusal} → brought ≡ Err d → put_answer m l s e p bytes ≡ Err d
  put_unread q = goes_on ∙ two_fail (says bytes (copy_of whose.Brought (length p))) (lawful m c whose.Brought) (replaced l s e p) q

  pub put_read : {u : TheTree} → brought ≡ Ok u → put_answer m l s e p bytes ≡ replaced l s e p u
  put_read q = goes_on ∙ two_pass (says bytes (copy_of whose.Brought (length p))) (lawful m c whose.Brought) (replaced l s e p) q

-- The parent of the end of the path is there, for an edit.
pub has_parent : {f g : File} (e : Side) (p : Path) → Same f g → parent_stands (copy e (trees f)) p ≡ true → 1 ≤ length p → HasParent (copy e (trees g)) p
has_parent {g = g} e p same h =
    parented (copy e (trees g)) p (copy_unmarked (kept g) e) (ap (λ s. parent_stands (copy e s) p) same.trees_stay ∙ h)

-- What a put replaces.
pub replaces : {f g : File} {e : Side} {p : Path} {u : TheTree} → Same f g → parent_stands (copy e (trees f)) p ≡ true
    → Fits (copy_of whose.Brought (length p)) u → Replaces g e p u
replaces {e = e} {p = p} {u = u} same h fits =
    record {
      unmarked = fits.unmarked refl;
      parent = has_parent e p same h;
      shallow = fits.shallow (true_T (present u) fits.stands);
    }

pub replaced_same : {f g : File} (e : Side) (p : Path) (u : TheTree) → Same f g
    → replaced (limit g) (trees g) e p u ≡ replaced (limit f) (trees f) e p u
replaced_same e p u same = λ i. replaced (same.limit_stays i) (same.trees_stay i) e p u

-- A path was found to lead there.
pub led_there : (w : Whose) (t : TheTree) (p : Path) (there : Bool) → Ok (tt {0}) ≡ passed (tt {0}) (leads w t p there) → Led t p there
led_there w t p there h = led w t p there _ (passed_ok (leads w t p there) h).1
