-- The words of nodes, written from the records of a view.
use Rattle.std.proofs.Common.{◌≡◌, ℕ, zero, suc, ◌+◌, ◌-◌, ◌*◌, ◌<◌, ◌≤◌, List, [], ◌∷◌, length, get_or, drop, sym, refl, ap, ◌∙◌, arith}
use Rattle.model.specs.Trees.{Tree, Forest, empty, child, names, WellFormedAll, nodes, nodes_all}
use Rattle.records.specs.declared.Entry.{Entry}
use Rattle.records.specs.declared.view.View.{View}
use Rattle.records.specs.Bytes.{entry_of, entries_of}
use Rattle.records.specs.Writing.{tells}
use Rattle.records.specs.Views.{tree_of}
use Rattle.records.proofs.Views.{count_is}
use Rattle.records.proofs.Views.{tells as tells_of}
use Rattle.stored.specs.Words.{emit, emits, below, Holds}
use Rattle.stored.proofs.Places.{kind, emit_view, nodes_below, nodes_some, sound_below}
use Rattle.stored.proofs.Rows.{Along, Ahead}
use Rattle.stored.proofs.Rows as rows
use Rattle.transfer.specs.Moves.{Siblings, record_of}
use Rattle.stored.proofs.Forests.{join, emits_join}
use Rattle.stored.proofs.Nodes.{from, alone, sound_open, nodes_open, Nth, nth, none_left, sound_alone, nodes_alone, emit_alone}
use Rattle.transfer.proofs.Told.{first_record, record_from, kind_is, tell_alone}

-- Going along so many siblings that are still to come.
abbrev pub Going : (ws rest : List ℕ) (end pos more : ℕ) → Type 0
Going ws rest end pos more = Along ws rest end pos (λ f. length (names f) ≡ more)

pub set_out : {ws : List ℕ} {at many : ℕ} {f : Forest} (more : ℕ) (s : Siblings ws at many f) → many ≡ more
    → Going ws s.rest (at + nodes_all f) at more
set_out {f = f} more s e = record { left = f; row = s.row; ends = refl; holds = s.number ∙ e }

pub on_way : {ws rest : List ℕ} {end pos more : ℕ} → Going ws rest end pos more → 0 < more → Ahead ws rest end pos (λ f. length (names f) ≡ more)
on_way {ws} {rest} {end} {pos} {more} g l = rows.ahead g (go g.left g.row.well_formed g.ends g.holds)
  where
    go : (f : Forest) → WellFormedAll f → pos + nodes_all f ≡ end → length (names f) ≡ more → pos < end
    go empty s e n = absurd (omega arith)
    go (child m t f) s e n = omega (arith, nodes_some t s.0)

pub one_less : {ws rest : List ℕ} {end pos more : ℕ} (less : ℕ) (a : Ahead ws rest end pos (λ f. length (names f) ≡ more)) (k : ℕ)
    → less + 1 ≡ more → k ≡ pos + nodes a.tree → Going ws rest end k less
one_less less a k l e = rows.step a k e (omega (arith, a.holds))

pub arrived : {ws rest : List ℕ} {end pos more : ℕ} → Going ws rest end pos more → more ≤ 0 → pos ≡ end
arrived {ws} {rest} {end} {pos} {more} g l = go g.left g.ends g.holds
  where
    go : (f : Forest) → pos + nodes_all f ≡ end → length (names f) ≡ more → pos ≡ end
    go empty e n = omega arith
    go (child m t f) e n = absurd (omega arith)

-- The records from a node on.
records_from : (j : ℕ) (es : List Entry) (f : Forest) → WellFormedAll f → j ≤ nodes_all f → es ≡ tells f [] → drop j es ≡ tells (from j f) []
records_from zero es f s l r = r
records_from (suc j) es empty s l r = absurd (omega arith)
records_from (suc j) es (child k t f) s l r =
    let a = nodes_open t f s.0 in
    ap (drop (suc j)) (r ∙ first_record k t f s.0) ∙ records_from j (tells (join (below t) f) []) (join (below t) f) (sound_open k t f s) (omega arith) refl

entries_at : (rs : List (List ℕ)) (j : ℕ) (d : List ℕ) → j < length rs → drop j (entries_of rs) ≡ entry_of (get_or rs j d) ∷ drop (suc j) (entries_of rs)
entries_at [] j d l = absurd (omega arith)
entries_at (r ∷ rs) zero d l = refl
entries_at (r ∷ rs) (suc j) d l = entries_at rs j d (omega arith)

-- The record of a node, by its number.
entry_is : (v : View) {j : ℕ} (x : Nth (tree_of v) j) (d : List ℕ) → j < nodes (tree_of v) → entry_of (get_or v.records.now j d) ≡ record_of x.name x.tree
entry_is v {j} x d l =
    let t = tree_of v in
    let s = tells_of v in
    let a = records_from j (entries_of v.records.now) (alone t) (sound_alone t s.well_formed) (omega (arith, nodes_alone t)) (s.told ∙ tell_alone t) ∙ record_from x in
    let b = entries_at v.records.now j d (omega (arith, count_is v)) in
    cc

-- One turn: all behind node number j is in words, and e is its record.
pub record Turn (t : Tree) (ws rest : List ℕ) (j : ℕ) (e : Entry) : Type 0 where
  pub tree : Tree
  pub siblings : Siblings ws (j + 1) e.children (below tree)
  pub few : nodes_all (below tree) < 4096
  pub again : (new : List ℕ) (end : ℕ) → end ≡ j + 1 + nodes_all (below tree)
      → drop (3 * j) new ≡ e.name ∷ (end - j) ∷ e.kind ∷ drop (3 * (j + 1)) ws
      → drop (3 * j) new ≡ emits (from j (alone t)) rest

pub turn : (v : View) {ws rest : List ℕ} (i : ℕ) (e : Entry) (d : List ℕ) → 0 < i → i ≤ nodes (tree_of v) → e ≡ entry_of (get_or v.records.now (i - 1) d)
    → drop (3 * i) ws ≡ emits (from i (alone (tree_of v))) rest → Turn (tree_of v) ws rest (i - 1) e
turn v {ws} {rest} i e d p l q w =
    let j = i - 1 in
    let t = tree_of v in
    let s = tells_of v in
    let few = s.few in
    let x = nth t j s.well_formed (omega arith) in
    let u = x.tree in
    let y : e ≡ record_of x.name u = q ∙ entry_is v x d (omega arith) in
    let i_is : i ≡ suc j = omega arith in
    let at_is : 3 * (j + 1) ≡ 3 * i = omega arith in
    let one : 1 + nodes_all (below u) ≡ nodes u = nodes_below u x.sound.0 in
    let row : drop (3 * (j + 1)) ws ≡ emits (below u) (emits x.more rest) =
    ap (λ k. drop k ws) at_is ∙ w ∙ ap (λ k. emits (from k (alone t)) rest) i_is ∙ ap (λ f. emits f rest) x.next ∙ emits_join (below u) x.more rest in
    record {
      tree = u;
      siblings = record {
        rest = emits x.more rest;
        row = record { well_formed = sound_below u x.sound.1; words = row };
        number = ap (λ (z : Entry). z.children) (sym y);
      };
      few = omega (arith, x.few);
      again = λ new end h k.
          let size : end - j ≡ nodes u = omega arith in
          let name_is : e.name ≡ x.name = ap (λ (z : Entry). z.name) y in
          let kind_is : e.kind ≡ kind u = ap (λ (z : Entry). z.kind) y ∙ kind_is u in
          k
          ∙ ap (λ a. a ∷ (end - j) ∷ e.kind ∷ drop (3 * (j + 1)) ws) name_is
          ∙ ap (λ a. x.name ∷ a ∷ e.kind ∷ drop (3 * (j + 1)) ws) size
          ∙ ap (λ a. x.name ∷ nodes u ∷ a ∷ drop (3 * (j + 1)) ws) kind_is
          ∙ ap (λ a. x.name ∷ nodes u ∷ kind u ∷ a) row
          ∙ sym (emit_view u x.name (emits x.more rest) x.sound.0)
          ∙ ap (λ f. emits f rest) (sym x.is);
    }

-- Before the first turn nothing is in words, and after the last all is.
pub nothing_yet : (v : View) (i : ℕ) (ws : List ℕ) → i ≡ nodes (tree_of v) → drop (3 * i) ws ≡ emits (from i (alone (tree_of v))) (drop (3 * nodes (tree_of v)) ws)
nothing_yet v i ws q =
    ap (λ k. drop (3 * k) ws) q ∙ ap (λ f. emits f (drop (3 * nodes (tree_of v)) ws)) (sym (none_left (tree_of v) i (tells_of v).well_formed q))

pub all_there : (t : Tree) (i : ℕ) (ws rest : List ℕ) → drop (3 * i) ws ≡ emits (from i (alone t)) rest → i ≤ 0 → ws ≡ emit t 0 rest
all_there t zero ws rest e l = e ∙ sym (emit_alone t rest)
all_there t (suc i) ws rest e l = absurd (omega arith)

-- Words that begin with those of the tree of a view hold it.
pub held : (v : View) {ws : List ℕ} {n : ℕ} (rest : List ℕ) → n ≡ nodes (tree_of v) → ws ≡ emit (tree_of v) 0 rest → Holds ws n (tree_of v)
held v rest q e =
    let s = tells_of v in
    record { begins = record { rest = rest; well_formed = s.well_formed; words = e }; count = q; few = s.few; shallow = s.shallow }
