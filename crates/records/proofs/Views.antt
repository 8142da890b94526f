-- The tree of a view, and a file that was read.
use Rattle.std.proofs.Common.{◌≡◌, ℕ, ◌+◌, ◌-◌, ◌*◌, ◌<◌, ◌≤◌, Bool, true, false, cond, ltb, List, [], ◌∷◌, length, drop, Ok, Err, Result, IfOk, sym, refl, ap, ◌∙◌, subst, arith, le-ltb}
use native.Mathlib.Bridge.{le_prop}
use native.Mathlib.Nat.{ℕ_set}
use mathlib.Core.List.{is_set}
use mathlib.Core.Logic.{∥∥₁_elim}
use Rattle.model.specs.Trees.{Tree, is_name, nodes}
use Rattle.refusals.specs.declared.Refusal.{Refusal}
use Rattle.refusals.specs.declared.Reason.TheVariants.{Short, Trailer, Count}
use Rattle.model.proofs.Once.{well_formed_once, named_once}
use Rattle.records.specs.declared.Elder.TheVariants.{Root}
use Rattle.records.specs.declared.Entry.{Entry}
use Rattle.records.specs.declared.Wanted.{Wanted}
use Rattle.records.specs.declared.view.View.{View}
use Rattle.records.specs.Bytes.{entry_of, entries, entries_of}
use Rattle.records.specs.Reading.{no, then, here, Grown, read, closed, rests, whole, passed, says, sealed, tail_at, tail_of, located}
use Rattle.records.specs.Records.{Tells, any, or_missing, tree_in}
use Rattle.records.specs.Views.{tree_of, trees_of, last_records, LiesIn}
use Rattle.records.specs.Files.{Fits, EndsWith, Bytes}
use Rattle.records.proofs.Chunks.{length_chunks, entries_cut, entry_dropped, length_entries_of}
use Rattle.records.proofs.Laws.{Holds, Told, whole_told, length_tell}
use Rattle.records.proofs.Fits.{whole_back, file_records, shallow_at, located_within, written_is_read, read_is_written}

-- Words of eight bytes are the records of a tree in one way at most.
tells_once : (entries_set : IsSet (List Entry)) (rs : List (List ℕ)) (t : Tree) → IsProp (Tells rs t)
tells_once s rs t h k = λ i.
    record {
      well_formed = well_formed_once t h.well_formed k.well_formed i;
      shallow = le_prop h.shallow k.shallow i;
      few = le_prop h.few k.few i;
      narrow = named_once is_name t h.narrow k.narrow i;
      told = s _ _ h.told k.told i;
    }

entry_set : IsSet Entry
entry_set = hlevel ℕ_set

-- What a view is built on.
pub tells : (v : View) → Tells v.records.now (tree_of v)
tells v = ∥∥₁_elim v.ok (tells_once (is_set entry_set) v.records.now (tree_of v)) (λ h. h)

-- Records that are those of a tree say that tree.
pub tree_is : {rs : List (List ℕ)} {t : Tree} → Tells rs t → tree_in rs ≡ t
unfolding tree_in
tree_is {rs} {t} h =
    ap (λ es. or_missing (whole any 0 es)) h.told
    ∙ ap or_missing (whole_back any 0 t (record { well_formed = h.well_formed; stands = refl; shallow = λ p. omega (arith, h.shallow); few = h.few; narrow = h.narrow; unmarked = λ q. absurd (let z : ◌≡◌ {A = ℕ} 0 1 = cc in omega arith) }))

pub tells_itself : {rs : List (List ℕ)} {t : Tree} → Tells rs t → Tells rs (tree_in rs)
tells_itself {rs} h = subst (Tells rs) (sym (tree_is h)) h

pub count_is : (v : View) → length v.records.now ≡ nodes (tree_of v)
count_is v = let h = tells v in omega (arith, length_entries_of v.records.now, ap length h.told, length_tell (tree_of v) 0 [])

-- The records of a file that ends with a tree that fits are those of the tree.
pub file_tells : {bs : List ℕ} {w : Wanted} {t : Tree} → Fits w t → EndsWith bs t w.kind → Tells (last_records bs (nodes t)) t
file_tells {bs} {w} {t} fit ends =
    record {
      well_formed = fit.well_formed;
      shallow = shallow_at w.depth t fit.shallow;
      few = fit.few;
      narrow = fit.narrow;
      told = entries_cut (nodes t) bs (length bs - (8 * nodes t + 8)) ∙ file_records bs w t fit ends;
    }

-- Records that were read as one tree, to the last.
pub left_over : (w : Wanted) (end : ℕ) (es more : List Entry) → 0 < length es → rests (read w end (33 - w.depth) 1 Root es) ≡ Ok more → 0 < length more
    → ◌≡◌ {A = Result (Unit {0}) Refusal} (Err (no w Count (here end more))) (passed tt (whole w end es))
left_over w end [] more l h m = absurd (omega arith)
left_over w end (e ∷ es) more l h m = go (read w end (33 - w.depth) 1 Root (e ∷ es)) h
  where
    shut : (g : Grown) (rest : List Entry) → rest ≡ g.rest → rest ≡ more → ◌≡◌ {A = Result (Unit {0}) Refusal} (Err (no w Count (here end more))) (passed tt (closed w end g))
    shut g [] p q = absurd (omega (arith, ap length q))
    shut g (x ∷ rest) p q = ap (λ y. Err (no w Count (here end y))) (sym q ∙ p) ∙ rw (sym p) refl

    go : (r : Result Grown Refusal) → rests r ≡ Ok more → ◌≡◌ {A = Result (Unit {0}) Refusal} (Err (no w Count (here end more))) (passed tt (then r (closed w end)))
    go (Err d) h = let z : ◌≡◌ {A = ℕ} 0 1 = cc in absurd (omega arith)
    go (Ok g) h = let i : g.rest ≡ more = cc in shut g g.rest refl i

-- The trailer, found.
pub located_at : (bs : List ℕ) (w : Wanted) (e : Entry) → 8 ≤ length bs → e ≡ entry_of (drop (length bs - 8) bs) → sealed w.kind (length bs) (tail_of e) ≡ true
    → located bs w ≡ Ok e.children
located_at bs w e l p s =
    let len = length bs in
    let q : tail_of e ≡ tail_at bs (len - 8) = ap tail_of (p ∙ entry_dropped bs (len - 8)) in
    ap (λ t. cond (ltb len 8) (Err (no w Short len)) (cond (sealed w.kind len t) (Ok t.number) (Err (no w Trailer (len - 8))))) (sym q)
    ∙ rw (le-ltb len 8 l, s) refl

-- A file that is accepted, and its tree.
pub record Found (bs : List ℕ) (w : Wanted) (rs : List (List ℕ)) : Type 0 where
  pub tree : Tree
  pub is : says bs w ≡ Ok tree
  pub fits : Fits w tree
  pub ends : EndsWith bs tree w.kind
  pub tells : Tells rs tree
  pub lies : rs ≡ last_records bs (nodes tree)

says_located : (bs : List ℕ) (w : Wanted) (n : ℕ) → located bs w ≡ Ok n → says bs w ≡ whole w (length bs - 8) (entries n bs (length bs - (8 * n + 8)))
says_located bs w n h = go (ltb (length bs) 8) (sealed w.kind (length bs) (tail_at bs (length bs - 8))) h
  where
    m : ℕ
    m = (tail_at bs (length bs - 8)).number

    f : ℕ → Result Tree Refusal
    f k = whole w (length bs - 8) (entries k bs (length bs - (8 * k + 8)))

    go : (a b : Bool) → cond a (Err (no w Short (length bs))) (cond b (Ok m) (Err (no w Trailer (length bs - 8)))) ≡ Ok n
        → cond a (Err (no w Short (length bs))) (cond b (f m) (Err (no w Trailer (length bs - 8)))) ≡ f n
    go true b h = let z : ◌≡◌ {A = ℕ} 0 1 = cc in absurd (omega arith)
    go false false h = let z : ◌≡◌ {A = ℕ} 0 1 = cc in absurd (omega arith)
    go false true h = let i : m ≡ n = cc in ap f i

pub says_refused : (bs : List ℕ) (w : Wanted) (e : Refusal) → located bs w ≡ Err e → says bs w ≡ Err e
says_refused bs w e h = go (ltb (length bs) 8) (sealed w.kind (length bs) (tail_at bs (length bs - 8))) h
  where
    m : ℕ
    m = (tail_at bs (length bs - 8)).number

    go : (a b : Bool) → cond a (Err (no w Short (length bs))) (cond b (Ok m) (Err (no w Trailer (length bs - 8)))) ≡ Err e
        → cond a (Err (no w Short (length bs))) (cond b (whole w (length bs - 8) (entries m bs (length bs - (8 * m + 8)))) (Err (no w Trailer (length bs - 8)))) ≡ Err e
    go true b h = let i : no w Short (length bs) ≡ e = cc in ap Err i
    go false false h = let i : no w Trailer (length bs - 8) ≡ e = cc in ap Err i
    go false true h = let z : ◌≡◌ {A = ℕ} 0 1 = cc in absurd (omega arith)

module _ (bs : List ℕ) (w : Wanted) (n : ℕ) (rs : List (List ℕ)) (at : located bs w ≡ Ok n) (cut : rs ≡ last_records bs n) where
  -- The records, read, are what the file says.
  pub says_it : whole w (length bs - 8) (entries_of rs) ≡ says bs w
  says_it = ap (λ r. whole w (length bs - 8) (entries_of r)) cut ∙ ap (whole w (length bs - 8)) (entries_cut n bs (length bs - (8 * n + 8))) ∙ sym (says_located bs w n at)

  pub within : 8 * length rs ≤ length bs - 8
  within = omega (arith, located_within bs w n at, ap length cut, length_chunks n (drop (length bs - (8 * n + 8)) bs))

  pub refused_too : (e : Refusal) → ◌≡◌ {A = Result (Unit {0}) Refusal} (Err e) (passed tt (whole w (length bs - 8) (entries_of rs))) → says bs w ≡ Err e
  refused_too e h = sym says_it ∙ go (whole w (length bs - 8) (entries_of rs)) h
    where
      go : (r : Result Tree Refusal) → ◌≡◌ {A = Result (Unit {0}) Refusal} (Err e) (passed tt r) → r ≡ Err e
      go (Ok t) h = let z : ◌≡◌ {A = ℕ} 0 1 = cc in absurd (omega arith)
      go (Err d) h = let i : e ≡ d = cc in ap Err (sym i)

  pub found : Bytes bs → ◌≡◌ {A = Result (Unit {0}) Refusal} (Ok tt) (passed tt (whole w (length bs - 8) (entries_of rs))) → Found bs w rs
  found s h = go (whole w (length bs - 8) (entries_of rs)) refl h
    where
      go : (r : Result Tree Refusal) → whole w (length bs - 8) (entries_of rs) ≡ r → ◌≡◌ {A = Result (Unit {0}) Refusal} (Ok tt) (passed tt r) → Found bs w rs
      go (Err d) q h = let z : ◌≡◌ {A = ℕ} 0 1 = cc in absurd (omega arith)
      go (Ok t) q h =
          let i : says bs w ≡ Ok t = sym says_it ∙ q in
          let p = read_is_written bs w t s i in
          let told = subst (λ r. Holds r (Told w.kind w.depth (entries_of rs))) q (whole_told w (length bs - 8) (entries_of rs)) in
          let c : n ≡ nodes t = omega (arith, ap length told.told, length_tell t 0 [], length_entries_of rs, ap length cut, length_chunks n (drop (length bs - (8 * n + 8)) bs)) in
          let l : rs ≡ last_records bs (nodes t) = cut ∙ ap (last_records bs) c in
          record { tree = t; is = i; fits = p.0; ends = p.1; tells = subst (λ r. Tells r t) (sym l) (file_tells p.0 p.1); lies = l }

-- What a refusal tells of the bytes, and what a view does.
abbrev pub Reads_as : List ℕ → Wanted → Result View Refusal → Type 0
Reads_as bs w r =
    record {
      answer : trees_of r ≡ says bs w;
      place : IfOk r (λ v. LiesIn bs v);
      complete : (t : Tree) → Fits w t → EndsWith bs t w.kind → trees_of r ≡ Ok t;
      faithful : IfOk r (λ v. Fits w (tree_of v) × EndsWith bs (tree_of v) w.kind);
    }

pub refused : (bs : List ℕ) (w : Wanted) {r : Result View Refusal} {e : Refusal} → r ≡ Err e → says bs w ≡ Err e → Reads_as bs w r
refused bs w {r} {e} q h =
    let a : trees_of r ≡ says bs w = ap trees_of q ∙ sym h in
    record {
      answer = a;
      place = subst (λ x. IfOk x (λ v. LiesIn bs v)) (sym q) tt;
      complete = λ t f n. a ∙ written_is_read bs w t f n;
      faithful = subst (λ x. IfOk x (λ v. Fits w (tree_of v) × EndsWith bs (tree_of v) w.kind)) (sym q) tt;
    }

pub accepted : {bs : List ℕ} {w : Wanted} (v : View) → v.start ≡ length bs - 8 - 8 * length v.records.now → Found bs w v.records.now → Reads_as bs w (Ok v)
accepted {bs} {w} v s f =
    let i : tree_of v ≡ f.tree = tree_is f.tells in
    let a : Ok (tree_of v) ≡ says bs w = ap Ok i ∙ sym f.is in
    record {
      answer = a;
      place = (omega (arith, s, count_is v), f.lies ∙ ap (λ t. last_records bs (nodes t)) (sym i));
      complete = λ t f n. a ∙ written_is_read bs w t f n;
      faithful = (subst (Fits w) (sym i) f.fits, subst (λ t. EndsWith bs t w.kind) (sym i) f.ends);
    }
