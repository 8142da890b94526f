-- Trees that a file can hold, and the two laws.
use Rattle.std.proofs.Common.{◌≡◌, ℕ, zero, suc, ◌+◌, ◌-◌, ◌*◌, ◌^◌, ◌<◌, ◌≤◌, Bool, true, false, cond, ◌&&◌, ◌||◌, T, eqb, ltb, leb, List, [], ◌∷◌, length, get_or, drop, Ok, Err, Result, sym, refl, ap, ◌∙◌, subst, arith, ltb→lt, lt→ltb, drop-drop}
use Rattle.std.proofs.lemmas.List.{drop_all}
use Rattle.std.proofs.lemmas.Bool.{eqb-true, eq-eqb, le-leb, leb-true, ltb-true, ltb-false, lt-ltb}
use Rattle.records.specs.declared.Entry.{Entry}
use Rattle.records.specs.declared.TreeKind.{TreeKind}
use Rattle.records.specs.declared.Wanted.{Wanted}
use Rattle.records.specs.declared.Elder.{Elder}
use Rattle.records.specs.declared.Elder.TheVariants.{Root, First, After}
use Rattle.records.specs.declared.TreeKind.TheVariants.{Copy, Archive}
use Rattle.refusals.specs.declared.Refusal.{Refusal}
use Rattle.refusals.specs.declared.Reason.TheVariants.{Short, Trailer, Count}
use Rattle.model.specs.Trees.{Tree, missing, mark, node, Forest, empty, child, names, present, Below, Ascends, WellFormed, WellFormedAll, Named, NamedAll, is_name, nodes, nodes_all, marks, marks_all, depth, depth_all}
use Rattle.records.specs.Bytes.{two_bytes, four_bytes, entry, entry_at, entries, put_entry, put_all, tree_code}
use Rattle.records.specs.Reading.{no, then, named, may_miss, grown, read, closed, whole, says, sealed, Tail, tail_at, records_of, located}
use Rattle.records.specs.Writing.{tell, tells, put_tail}
use Rattle.records.specs.Files.{Fits, EndsWith, Bytes, WrittenIsRead, ReadIsWritten}
use Rattle.records.proofs.Bytes.{length_entries, Small, decode, decode_all, encode, encode_all, behind_put}
use Rattle.records.proofs.Laws.{Holds, cond_holds, Grows, Rises, Sits, Told, whole_told, length_tell, says_whole}

abbrev Heads : Elder → List ℕ → Type 0
Heads el [] = Unit {0}
Heads el (k ∷ ks) = named el k ≡ true

heads_first : (ks : List ℕ) → Heads First ks
heads_first [] = tt
heads_first (k ∷ ks) = refl

heads_after : (n : ℕ) (ks : List ℕ) → Below n ks → Heads (After n) ks
heads_after n [] b = tt
heads_after n (k ∷ ks) b = lt-ltb n k b.0

below_less : (m n : ℕ) (ks : List ℕ) → m < n → Below n ks → Below m ks
below_less m n [] l b = tt
below_less m n (k ∷ ks) l b = (omega (arith, b.0), below_less m n ks l b.1)

-- Well-formed trees of the right depth can be held.
mutual
  grows : (w : TreeKind) (room : ℕ) (t : Tree) → T (present t) → WellFormed t → depth t ≤ room → (w ≡ Copy → marks t ≡ 0) → Grows w room t
  grows w room missing h s d m = absurd h
  grows Copy room mark h s d m = absurd (omega (arith, m refl))
  grows Archive room mark h s d m = refl
  grows w room (node f) h s d m = rises w room First f (heads_first (names f)) s.0 s.1 d m

  rises : (w : TreeKind) (room : ℕ) (el : Elder) (f : Forest) → Heads el (names f) → Ascends (names f) → WellFormedAll f → depth_all f ≤ room → (w ≡ Copy → marks_all f ≡ 0) → Rises w room el f
  rises w room el empty h a s d m = tt
  rises w zero el (child n t f) h a s d m = absurd (omega arith)
  rises w (suc room) el (child n t f) h a s d m = (
    h,
    grows w room t s.0 s.1 (omega arith) (λ e. omega (arith, m e)),
    rises w (suc room) (After n) f (heads_after n (names f) a.0) a.1 s.2 (omega arith) (λ e. omega (arith, m e)),
  )

-- And what is held is sound.
pub record Good (w : TreeKind) (room : ℕ) (t : Tree) : Type 0 where
  pub stands : T (present t)
  pub sound : WellFormed t
  pub shallow : depth t ≤ room
  pub unmarked : w ≡ Copy → marks t ≡ 0

pub record Goods (w : TreeKind) (room : ℕ) (f : Forest) : Type 0 where
  pub ascends : Ascends (names f)
  pub sound : WellFormedAll f
  pub shallow : depth_all f ≤ room
  pub unmarked : w ≡ Copy → marks_all f ≡ 0

rises_below : (w : TreeKind) (room n : ℕ) (f : Forest) → Rises w room (After n) f → Below n (names f)
rises_below w room n empty r = tt
rises_below w zero n (child k t f) r = absurd r
rises_below w (suc room) n (child k t f) r =
    let l = ltb-true n k r.0 in
    (l, below_less n k (names f) l (rises_below w (suc room) k f r.2))

mutual
  good : (w : TreeKind) (room : ℕ) (t : Tree) → Grows w room t → Good w room t
  good w room missing g = absurd g
  good Copy room mark g = let z : ◌≡◌ {A = ℕ} 0 1 = cc in absurd (omega arith)
  good Archive room mark g = record { stands = tt; sound = tt; shallow = omega arith; unmarked = λ e. let z : ◌≡◌ {A = ℕ} 0 1 = cc in absurd (omega arith) }
  good w room (node f) g =
      let h = goods w room First f g in
      record { stands = tt; sound = (h.ascends, h.sound); shallow = h.shallow; unmarked = h.unmarked }

  goods : (w : TreeKind) (room : ℕ) (el : Elder) (f : Forest) → Rises w room el f → Goods w room f
  goods w room el empty r = record { ascends = tt; sound = tt; shallow = omega arith; unmarked = λ e. refl }
  goods w zero el (child n t f) r = absurd r
  goods w (suc room) el (child n t f) r =
      let a = good w room t r.1 in
      let b = goods w (suc room) (After n) f r.2 in
      record {
        ascends = (rises_below w (suc room) n f r.2, b.ascends);
        sound = (a.stands, a.sound, b.sound);
        shallow = omega (arith, a.shallow, b.shallow);
        unmarked = λ e. omega (arith, a.unmarked e, b.unmarked e);
      }

-- Reading the records of a row.
mutual
  pub back : (w : Wanted) (end room : ℕ) (el : Elder) (f : Forest) (rest : List Entry) → Rises w.kind room el f
      → read w end room (length (names f)) el (tells f rest) ≡ Ok (grown f rest)
  back w end room el empty rest r = refl
  back w end zero el (child n t f) rest r = absurd r
  back w end (suc room) el (child n t f) rest r = back_at w end room el n t f rest r.0 r.1 (back w end (suc room) (After n) f rest r.2)

  back_at : (w : Wanted) (end room : ℕ) (el : Elder) (n : ℕ) (t : Tree) (f : Forest) (rest : List Entry) → named el n ≡ true → Grows w.kind room t
      → read w end (suc room) (length (names f)) (After n) (tells f rest) ≡ Ok (grown f rest)
      → read w end (suc room) (suc (length (names f))) el (tell t n (tells f rest)) ≡ Ok (grown (child n t f) rest)
  back_at w end room el n missing f rest a g h = absurd g
  back_at w end room el n mark f rest a g h = rw (g, a, h)
  back_at w end room el n (node u) f rest a g h = rw (a, back w end room First u (tells f rest) g, h)

-- Records whose numbers fit their fields.
pub names_few : (f : Forest) → WellFormedAll f → length (names f) ≤ nodes_all f
names_few empty s = omega arith
names_few (child n missing f) s = absurd s.0
names_few (child n mark f) s = omega (arith, names_few f s.2)
names_few (child n (node g) f) s = omega (arith, names_few f s.2)

mutual
  small : (t : Tree) (n : ℕ) (rest : List Entry) → n < 2 ^ 32 → WellFormed t → Named is_name t → nodes t ≤ 4096 → Small rest → Small (tell t n rest)
  small missing n rest l s m c r = r
  small mark n rest l s m c r = (l, omega arith, r)
  small (node f) n rest l s m c r = (l, omega (arith, names_few f s.1), smalls f rest s.1 m (omega arith) r)

  smalls : (f : Forest) (rest : List Entry) → WellFormedAll f → NamedAll is_name f → nodes_all f ≤ 4096 → Small rest → Small (tells f rest)
  smalls empty rest s m c r = r
  smalls (child n t f) rest s m c r =
      small t n (tells f rest) (ltb→lt n 4294967296 m.0) s.1 m.1 (omega arith) (smalls f rest s.2 m.2 (omega arith) r)

mutual
  narrow : (t : Tree) (n : ℕ) (rest : List Entry) → Small (tell t n rest) → WellFormed t → Named is_name t
  narrow missing n rest s h = tt
  narrow mark n rest s h = tt
  narrow (node f) n rest s h = narrows f rest s.2 h.1

  narrows : (f : Forest) (rest : List Entry) → Small (tells f rest) → WellFormedAll f → NamedAll is_name f
  narrows empty rest s h = tt
  narrows (child n t f) rest s h =
      (lt→ltb n 4294967296 (own t n (tells f rest) s h.0), narrow t n (tells f rest) s h.1, narrows f rest (behind t n (tells f rest) s) h.2)

  own : (t : Tree) (n : ℕ) (rest : List Entry) → Small (tell t n rest) → T (present t) → n < 2 ^ 32
  own missing n rest s h = absurd h
  own mark n rest s h = s.0
  own (node f) n rest s h = s.0

  behind : (t : Tree) (n : ℕ) (rest : List Entry) → Small (tell t n rest) → Small rest
  behind missing n rest s = s
  behind mark n rest s = s.2
  behind (node f) n rest s = behinds f rest s.2

  behinds : (f : Forest) (rest : List Entry) → Small (tells f rest) → Small rest
  behinds empty rest s = s
  behinds (child n t f) rest s = behinds f rest (behind t n (tells f rest) s)

small_entries : (n : ℕ) (bs : List ℕ) (at : ℕ) → ((i : ℕ) → get_or bs i 0 < 256) → Small (entries n bs at)
small_entries zero bs at s = tt
small_entries (suc n) bs at s = (
  omega (arith, s at, s (at + 1), s (at + 2), s (at + 2 + 1)),
  omega (arith, s (at + 4), s (at + 4 + 1)),
  small_entries n bs (at + 8) s,
)

-- A whole file of records.
rooted : (w : TreeKind) (d : ℕ) (t : Tree) → d ≤ 32 → Grows w (32 - d) t → Rises w (33 - d) Root (child 0 t empty)
rooted w d t l g = let e : suc (32 - d) ≡ 33 - d = omega arith in let r : Rises w (suc (32 - d)) Root (child 0 t empty) = (refl, g, tt) in subst (λ k. Rises w k Root (child 0 t empty)) e r

one : (w : Wanted) (end : ℕ) (t : Tree) → w.depth ≤ 32 → Grows w.kind (32 - w.depth) t → then (read w end (33 - w.depth) 1 Root (tell t 0 [])) (closed w end) ≡ Ok t
one w end t l g = ap (λ r. then r (closed w end)) (back w end (33 - w.depth) Root (child 0 t empty) [] (rooted w.kind w.depth t l g))

pub whole_back : (w : Wanted) (end : ℕ) (t : Tree) → Fits w t → whole w end (tell t 0 []) ≡ Ok t
whole_back w end missing f = go (may_miss w.whose) f.stands
  where
    go : (b : Bool) → (b || false) ≡ true → cond b (Ok missing) (Err (no w Count end)) ≡ Ok missing
    go true e = refl
    go false e = let z : ◌≡◌ {A = ℕ} 0 1 = cc in absurd (omega arith)
whole_back w end mark f = one w end mark (omega (arith, f.shallow tt)) (grows w.kind (32 - w.depth) mark tt tt (omega (arith, f.shallow tt)) f.unmarked)
whole_back w end (node g) f = one w end (node g) (omega (arith, f.shallow tt)) (grows w.kind (32 - w.depth) (node g) tt f.well_formed (omega (arith, f.shallow tt)) f.unmarked)

seals : (w : TreeKind) (len v k n q : ℕ) → v ≡ 1 → k ≡ tree_code w → n ≤ 4096 → q ≡ 8 * n + 8 → q ≤ len
    → (eqb v 1 && (eqb k (tree_code w) && (leb n 4096 && (eqb q (8 * n + 8) && leb q len)))) ≡ true
seals w len v k n q a b c d e = rw (eq-eqb v 1 a, eq-eqb k (tree_code w) b, le-leb n 4096 c, eq-eqb q (8 * n + 8) d, le-leb q len e)

-- The records of a file that ends with a tree that fits.
pub file_records : (bs : List ℕ) (w : Wanted) (t : Tree) → Fits w t → EndsWith bs t w.kind → entries (nodes t) bs (length bs - (8 * nodes t + 8)) ≡ tell t 0 []
file_records bs w t fit ends =
    let es = tell t 0 [] in
    let l : length es ≡ nodes t = length_tell t 0 [] ∙ omega arith in
    let p = length bs - (8 * nodes t + 8) in
    ap (λ k. entries k bs p) (sym l) ∙ decode_all es bs p (put_tail (nodes t) w.kind) ends.file (small t 0 [] (omega arith) fit.well_formed fit.narrow fit.few tt)

pub written_is_read : WrittenIsRead
written_is_read bs w t fit ends =
    let len = length bs in
    let n = nodes t in
    let es = tell t 0 [] in
    let tail = entry (8 * n + 8) n (tree_code w.kind) 1 in
    let l : length es ≡ n = length_tell t 0 [] ∙ omega arith in
    let p = len - (8 * n + 8) in
    let q : p + 8 * length es ≡ len - 8 = omega (arith, ends.long) in
    let b : drop (len - 8) bs ≡ put_tail n w.kind = ap (λ k. drop k bs) (sym q) ∙ sym (drop-drop (8 * length es) p bs) ∙ ap (drop (8 * length es)) ends.file ∙ behind_put es (put_tail n w.kind) in
    let x = decode bs (len - 8) tail [] b (omega (arith, fit.few)) (omega (arith, fit.few)) in
    let distance : four_bytes bs (len - 8) ≡ 8 * n + 8 = ap (λ (e : Entry). e.name) x.is in
    let number : two_bytes bs (len - 8 + 4) ≡ n = ap (λ (e : Entry). e.children) x.is in
    let s = seals w.kind len (get_or bs (len - 8 + 7) 0) (get_or bs (len - 8 + 6) 0) (two_bytes bs (len - 8 + 4)) (four_bytes bs (len - 8)) (ap (λ (e : Entry). e.last) x.is) (ap (λ (e : Entry). e.kind) x.is) (omega (arith, fit.few)) (omega arith) (omega (arith, ends.long)) in
    says_whole bs w (omega (arith, ends.long)) s
    ∙ ap (λ k. whole w (len - 8) (entries k bs (len - (8 * k + 8)))) number
    ∙ ap (whole w (len - 8)) (file_records bs w t fit ends)
    ∙ whole_back w (len - 8) t fit

-- The other way.
and_l : (a b : Bool) → (a && b) ≡ true → a ≡ true
and_l true b h = refl
and_l false b h = h

and_r : (a b : Bool) → (a && b) ≡ true → b ≡ true
and_r true b h = h
and_r false b h = absurd (let z : ◌≡◌ {A = ℕ} 0 1 = cc in omega arith)

pub record Sealed (w : TreeKind) (len v k n q : ℕ) : Type 0 where
  pub version : v ≡ 1
  pub kind : k ≡ tree_code w
  pub few : n ≤ 4096
  pub distance : q ≡ 8 * n + 8
  pub within : q ≤ len

unseal : (w : TreeKind) (len v k n q : ℕ) → (eqb v 1 && (eqb k (tree_code w) && (leb n 4096 && (eqb q (8 * n + 8) && leb q len)))) ≡ true → Sealed w len v k n q
unseal w len v k n q h =
    let a = and_r (eqb v 1) _ h in
    let b = and_r (eqb k (tree_code w)) _ a in
    let c = and_r (leb n 4096) _ b in
    record {
      version = eqb-true v 1 (and_l (eqb v 1) _ h);
      kind = eqb-true k (tree_code w) (and_l (eqb k (tree_code w)) _ a);
      few = leb-true n 4096 (and_l (leb n 4096) _ b);
      distance = eqb-true q (8 * n + 8) (and_l (eqb q (8 * n + 8)) _ c);
      within = leb-true q len (and_r (eqb q (8 * n + 8)) _ c);
    }

fitting : (w : Wanted) (t : Tree) → Sits w.kind (33 - w.depth) t → (may_miss w.whose || present t) ≡ true → nodes t ≤ 4096 → Small (tell t 0 []) → Fits w t
fitting w t s m f h = go t (33 - w.depth) refl s m f h
  where
    d : ℕ
    d = w.depth

    made : (u : Tree) → d ≤ 32 → Good w.kind (32 - d) u → (may_miss w.whose || present u) ≡ true → nodes u ≤ 4096 → Small (tell u 0 []) → Fits w u
    made u l g m f h =
        record { well_formed = g.sound; stands = m; shallow = λ p. omega (arith, l, g.shallow); few = f; narrow = narrow u 0 [] h g.sound; unmarked = g.unmarked }

    go : (u : Tree) (room : ℕ) → room ≡ 33 - d → Sits w.kind room u → (may_miss w.whose || present u) ≡ true → nodes u ≤ 4096 → Small (tell u 0 []) → Fits w u
    go missing room e s m f h = record { well_formed = tt; stands = m; shallow = λ p. absurd p; few = f; narrow = tt; unmarked = λ q. refl }
    go mark zero e s m f h = absurd s
    go mark (suc room) e s m f h = let q : room ≡ 32 - d = omega arith in made mark (omega arith) (subst (λ k. Good w.kind k mark) q (good w.kind room mark s.1)) m f h
    go (node g) zero e s m f h = absurd s
    go (node g) (suc room) e s m f h = let q : room ≡ 32 - d = omega arith in made (node g) (omega arith) (subst (λ k. Good w.kind k (node g)) q (good w.kind room (node g) s.1)) m f h

standing : (w : Wanted) (end : ℕ) (es : List Entry) (t : Tree) → whole w end es ≡ Ok t → es ≡ tell t 0 [] → (may_miss w.whose || present t) ≡ true
standing w end es missing h e = go es (may_miss w.whose) refl h e
  where
    go : (es : List Entry) (b : Bool) → b ≡ may_miss w.whose → whole w end es ≡ Ok missing → es ≡ [] → (may_miss w.whose || false) ≡ true
    go [] true q h e = ap (λ b. b || false) (sym q)
    go [] false q h e = let z : ◌≡◌ {A = ℕ} 0 1 = let y : cond false (Ok missing) (Err (no w Count end)) ≡ Ok missing = rw (sym q) at h in cc in absurd (omega arith)
    go (x ∷ es) b q h e = let z : ◌≡◌ {A = ℕ} 0 1 = cc in absurd (omega arith)
standing w end es mark h e = go (may_miss w.whose)
  where
    go : (b : Bool) → (b || true) ≡ true
    go true = refl
    go false = refl
standing w end es (node f) h e = go (may_miss w.whose)
  where
    go : (b : Bool) → (b || true) ≡ true
    go true = refl
    go false = refl

-- Whatever numbers stand for the bytes, a tree that is read is well formed, and it stands where it must.
pub record Reads (w : Wanted) (t : Tree) : Type 0 where
  pub well_formed : WellFormed t
  pub stands : (may_miss w.whose || present t) ≡ true

sits_formed : (w : TreeKind) (room : ℕ) (t : Tree) → Sits w room t → WellFormed t
sits_formed w room missing s = tt
sits_formed w room mark s = tt
sits_formed w zero (node f) s = absurd s
sits_formed w (suc room) (node f) s = (good w room (node f) s.1).sound

whole_reads : (w : Wanted) (end : ℕ) (es : List Entry) → Holds (whole w end es) (Reads w)
whole_reads w end es = go (whole w end es) refl (whole_told w end es)
  where
    go : (r : Result Tree Refusal) → whole w end es ≡ r → Holds r (Told w.kind w.depth es) → Holds r (Reads w)
    go (Ok t) q h = record { well_formed = sits_formed w.kind (33 - w.depth) t h.good; stands = standing w end es t q h.told }
    go (Err e) q h = tt

pub reads : (bs : List ℕ) (w : Wanted) → Holds (says bs w) (Reads w)
reads bs w =
    let len = length bs in
    let t = tail_at bs (len - 8) in
    cond_holds (ltb len 8) _ _ (Reads w) (λ _. tt)
    (cond_holds (sealed w.kind len t) _ _ (Reads w) (λ _. whole_reads w (len - 8) (records_of bs len t)) tt)

told_law : (bs : List ℕ) (w : Wanted) (t : Tree) (len n : ℕ) → len ≡ length bs → n ≡ two_bytes bs (len - 8 + 4) → Bytes bs
    → 8 ≤ len → Sealed w.kind len (get_or bs (len - 8 + 7) 0) (get_or bs (len - 8 + 6) 0) n (four_bytes bs (len - 8))
    → whole w (len - 8) (entries n bs (len - (8 * n + 8))) ≡ Ok t
    → Fits w t × EndsWith bs t w.kind
told_law bs w t len n le ne s m x h =
    let es = entries n bs (len - (8 * n + 8)) in
    let k = w.kind in
    let told = subst (λ r. Holds r (Told k w.depth es)) h (whole_told w (len - 8) es) in
    let c : nodes t ≡ n = omega (arith, length_entries n bs (len - (8 * n + 8)), ap length told.told, length_tell t 0 []) in
    let p : len - (8 * n + 8) ≡ length bs - (8 * nodes t + 8) = omega arith in
    let e0 : entry_at bs (len - 8) ≡ entry (8 * nodes t + 8) (nodes t) (tree_code k) 1 =
    λ i. record { name = (x.distance ∙ ap (λ k. 8 * k + 8) (sym c)) i; children = (sym ne ∙ sym c) i; kind = x.kind i; last = x.version i } in
    let tail : drop (len - 8) bs ≡ put_tail (nodes t) k =
    encode bs (len - 8) s (omega arith) ∙ ap (λ e. put_entry e (drop (len - 8 + 8) bs)) e0 ∙ ap (put_entry (entry (8 * nodes t + 8) (nodes t) (tree_code k) 1)) (drop_all (len - 8 + 8) bs (omega arith)) in (
      fitting w t told.good (standing w (len - 8) es t h told.told) (omega (arith, x.few)) (subst Small told.told (small_entries n bs (len - (8 * n + 8)) s)),
      record {
        long = omega (arith, x.within, x.distance);
        file = ap (λ k. drop k bs) (sym p) ∙ encode_all n bs (len - (8 * n + 8)) (len - 8) s (omega (arith, x.within, x.distance)) (omega arith)
            ∙ ap (λ l. put_all es l) tail ∙ ap (λ l. put_all l (put_tail (nodes t) k)) told.told;
      },
    )

pub read_is_written : ReadIsWritten
read_is_written bs w t s e = go (ltb (length bs) 8) (sealed w.kind (length bs) (tail_at bs (length bs - 8))) refl refl
  where
    go : (a b : Bool) → a ≡ ltb (length bs) 8 → b ≡ sealed w.kind (length bs) (tail_at bs (length bs - 8)) → Fits w t × EndsWith bs t w.kind
    go true b p q =
        let x : says bs w ≡ Err (no w Short (length bs)) = ap (λ c. cond c (Err (no w Short (length bs))) (cond (sealed w.kind (length bs) (tail_at bs (length bs - 8))) (whole w (length bs - 8) (records_of bs (length bs) (tail_at bs (length bs - 8)))) (Err (no w Trailer (length bs - 8))))) (sym p) in
        let z : ◌≡◌ {A = ℕ} 0 1 = cc in absurd (omega arith)
    go false false p q =
        let x : says bs w ≡ Err (no w Trailer (length bs - 8)) =
        ap (λ c. cond c (Err (no w Short (length bs))) (cond (sealed w.kind (length bs) (tail_at bs (length bs - 8))) (whole w (length bs - 8) (records_of bs (length bs) (tail_at bs (length bs - 8)))) (Err (no w Trailer (length bs - 8))))) (sym p)
        ∙ ap (λ c. cond c (whole w (length bs - 8) (records_of bs (length bs) (tail_at bs (length bs - 8)))) (Err (no w Trailer (length bs - 8)))) (sym q) in
        let z : ◌≡◌ {A = ℕ} 0 1 = cc in absurd (omega arith)
    go false true p q =
        let m = ltb-false (length bs) 8 (sym p) in
        told_law bs w t (length bs) (two_bytes bs (length bs - 8 + 4)) refl refl s m (unseal w.kind (length bs) _ _ _ _ (sym q)) (sym (says_whole bs w m (sym q)) ∙ e)

pub shallow_at : (d : ℕ) (t : Tree) → (T (present t) → d + depth t ≤ 32) → depth t ≤ 32
shallow_at d missing h = omega arith
shallow_at d mark h = omega arith
shallow_at d (node f) h = omega (arith, h tt)

-- A trailer that is right has its records before it.
pub located_within : (bs : List ℕ) (w : Wanted) (n : ℕ) → located bs w ≡ Ok n → 8 * n + 8 ≤ length bs
located_within bs w n h = go (ltb len 8) (sealed w.kind len t) refl h
  where
    len : ℕ
    len = length bs

    t : Tail
    t = tail_at bs (len - 8)

    go : (a b : Bool) → b ≡ sealed w.kind len t → cond a (Err (no w Short len)) (cond b (Ok t.number) (Err (no w Trailer (len - 8)))) ≡ Ok n → 8 * n + 8 ≤ len
    go true b q h = let z : ◌≡◌ {A = ℕ} 0 1 = cc in absurd (omega arith)
    go false false q h = let z : ◌≡◌ {A = ℕ} 0 1 = cc in absurd (omega arith)
    go false true q h =
        let i : t.number ≡ n = cc in
        let u = unseal w.kind len t.version t.kind t.number t.distance (sym q) in
        omega (arith, u.within, u.distance)
