-- The turns of the loop.
use Rattle.std.proofs.Common.{◌≡◌, ℕ, ◌+◌, ◌*◌, ◌≤◌, false, cond, List, [], ◌∷◌, ◌++◌, length, drop, Ok, Option, sym, refl, ap, ◌∙◌, subst, inl, inr, arith, length-drop, drop-drop}
use Rattle.std.proofs.lemmas.Bool.{cases_lt, lt-ltb, le-ltb}
use Rattle.model.specs.Trees.{Tree, missing, mark, node, Forest, empty, child, find, names, Ascends, is_mark, nodes, nodes_all}
use Rattle.model.specs.Meaning.{Meaning, class_under, Obeys, ObeyAll}
use Rattle.model.specs.Round.{Outcome, first_five}
use Rattle.model.proofs.Place.{obeys_find, unmarked}
use Rattle.stored.specs.Words.{emit, below as children}
use Rattle.stored.specs.Lookup.{Between, from_on}
use Rattle.stored.specs.Lookup.{Spot, at_of}
use Rattle.stored.proofs.Places.{node_at}
use Rattle.stored.proofs.Lookup.{ascends_onward, ascends_below, between_children}
use Rattle.area.specs.Views.{view, limit, Only}
use Rattle.area.specs.declared.types.Area.{Area}
use Rattle.tables.specs.declared.Table.{Table}
use Rattle.tables.specs.declared.Table.TheVariants.{Archive, Field, Bench}
use Rattle.area.specs.declared.regions.Region.TheVariants.{Tree as Old, New, Stack, Names}
use Rattle.area.proofs.Laws.{view_length, same_length}
use Rattle.merging.specs.Tables.{Sizes}
use Rattle.merging.specs.declared.types.Here.{Here}
use Rattle.merging.specs.declared.types.Walk.{Walk}
use Rattle.merging.specs.declared.types.Step.{Step}
use Rattle.merging.specs.declared.types.Step.TheVariants.{Down}
use Rattle.merging.specs.Tables.{spot, tree_of, At, gone, there, sources}
use Rattle.tables.specs.Pick.{pick, each}
use Rattle.merging.specs.Steps.{made, verdict}
use Rattle.merging.specs.Levels.{Level, sealed, value, more, gained, resume, answer, fresh}
use Rattle.merging.specs.Looking.{Looked}
use Rattle.merging.specs.Frames.{frame_words}
use Rattle.merging.specs.Going.{Rests, RestsAll, Bottom, Going, State, busy, over, Closing, own, frame_for, Opens}
use Rattle.merging.specs.Outputs.{Grown, Listed}
use Rattle.merging.proofs.Finding.{stood, found_present}
use Rattle.merging.proofs.Fronts.{Next, next}
use Rattle.merging.proofs.Leads.{bare}
use Rattle.merging.proofs.Machine.{behind, stepped, turned, Sinks, sinks, opened_value, shut}
use Rattle.merging.proofs.Writing.{by_table, opened_long}
use Rattle.merging.proofs.Regions.{same_sources}
use Rattle.merging.proofs.Outs.{grow, open_one, opened, close_one, close_last, first_place, listed_more, made_small, sealed_small}

-- The trees under a name, in what is left of each table.
abbrev pub found : Level → ℕ → Table → Tree
found lv k t = find (lv.left t) k

pub pick_each : (n : Table → ℕ) (t : Table) → pick t (each n) ≡ n t
pick_each n Archive = refl
pick_each n Field = refl
pick_each n Bench = refl

obeys_onward : (m : Meaning) (c : Option ℕ) (k : ℕ) (f : Forest) → ObeyAll m c f → ObeyAll m c (from_on k f)
obeys_onward m c k empty h = tt
obeys_onward m c k (child n t f) h =
    elim (cases_lt n k) [ inl l ↦ rw (lt-ltb n k l) (obeys_onward m c k f h.1) | inr l ↦ rw (le-ltb n k l) h ]

-- Where a copy stands is within the limit.
stands_low : (area : Area) (t : Table) {k p : ℕ} {f : Forest} → At (sources area t) k (Ok p) (node f) → p + nodes (node f) ≤ limit area
stands_low area t h = let w = node_at (stood h refl).here in omega (arith, w.whole, view_length area (Old t))

module _ {m : Meaning} {target : Outcome} {area : Area} {w : Walk} {lv : Level} {ls : List Level} (g : Going m target area w lv ls) where
  -- Where the top of the stack and the walk are.
  pub record Standing : Type 0 where
    pub top_in : w.top + 10 ≤ limit area * 16
    pub field_in : w.at.field + nodes_all (lv.left Field) ≡ lv.frame.ends.field
    pub bench_in : w.at.bench + nodes_all (lv.left Bench) ≡ lv.frame.ends.bench
    pub field_low : lv.frame.ends.field ≤ limit area
    pub bench_low : lv.frame.ends.bench ≤ limit area

  pub standing : Standing
  standing =
      let r = g.rests.0 in
      record {
        top_in = omega (arith, length-drop w.top (view area Stack), ap length g.pile, view_length area Stack);
        field_in = sym (r.lies Field).ends;
        bench_in = sym (r.lies Bench).ends;
        field_low = omega (arith, r.field_ends, stands_low area Field r.field_here);
        bench_low = omega (arith, r.bench_ends, stands_low area Bench r.bench_here);
      }

  pub closing : Closing area lv.frame w.new lv
  closing =
      let r = g.rests.0 in
      let s = standing in
      record {
        opened = λ t. opened (g.outs t);
        listed = r.listed;
        field_here = r.field_here;
        bench_here = r.bench_here;
        room = λ t. omega (arith, r.used t, r.field_ends, r.bench_ends, s.field_low, s.bench_low);
      }

again : {m : Meaning} {source : Table → List ℕ} {lv : Level} {at : Sizes} (done : Table → Forest) → ((t : Table) → Listed (done t))
    → Rests m source lv at → Rests m source (gained lv lv.left done) at
again done l r =
    record {
      lies = r.lies;
      ascend = r.ascend;
      field_obeys = r.field_obeys;
      bench_obeys = r.bench_obeys;
      field_here = r.field_here;
      bench_here = r.bench_here;
      field_ends = r.field_ends;
      bench_ends = r.bench_ends;
      used = r.used;
      low = r.low;
      listed = l;
    }

bottom_as : (lv lv' : Level) (ls : List Level) → lv'.name ≡ lv.name → Bottom lv ls → Bottom lv' ls
bottom_as lv lv' [] e b = e ∙ b
bottom_as lv lv' (up ∷ ls) e b = b

-- A level is closed.
pub shuts : {m : Meaning} {target : Outcome} {area : Area} {w : Walk} {lv : Level} {ls : List Level} → Going m target area w lv ls
    → (area' : Area) (r : Sizes) → w.at.field ≡ lv.frame.ends.field → w.at.bench ≡ lv.frame.ends.bench
    → Only (New Archive ∷ New Field ∷ New Bench ∷ Names ∷ []) area area'
    → ((t : Table) → Grown (view area (New t)) (view area' (New t)) (pick t lv.frame.new) (pick t r) lv.name
    (tree_of t (sealed m lv.frame.class lv.one lv.two lv.done)))
    → State m target area' (record { top = w.top + 10; at = lv.frame.ends; new = r })
shuts {m} {target} {area} {w} {lv} {ls} g area' r ef eb o grown = run ls g
  where
    run : (ls : List Level) → Going m target area w lv ls → State m target area' (record { top = w.top + 10; at = lv.frame.ends; new = r })
    run [] g =
        let all = sealed m lv.frame.class lv.one lv.two lv.done in
        let b = g.rests.0.lies in
        let e : all ≡ target = sym (shut m lv (bare (b Field) ef) (bare (b Bench) eb)) ∙ g.answers in
        over (record {
          done = omega (arith, ap length g.pile, length-drop w.top (view area Stack), view_length area Stack, o.same_limit);
          merged = record {
            counts = λ t. omega (arith, (grown t).ends, first_place (g.outs t), ap (λ x. nodes (tree_of t x)) e);
            words = λ t. close_last (g.outs t) (grown t) ∙ ap (λ x. emit (tree_of t x) lv.name []) e ∙ ap (λ k. emit (tree_of t target) k []) g.bottom;
          };
        })
    run (up ∷ ls) g =
        let all = sealed m lv.frame.class lv.one lv.two lv.done in
        let b = g.rests.0.lies in
        let q = g.rests.0 in
        let e : value m lv ≡ all = shut m lv (bare (b Field) ef) (bare (b Bench) eb) in
        let done = more up.done lv.name all in
        let up' : Level = gained up up.left done in
        let listed : (t : Table) → Listed (done t) = λ t. listed_more up.done lv.name all t (g.rests.1.0.listed t) in
        let rest : RestsAll m (sources area) (up' ∷ ls) lv.frame.ends = (again done listed g.rests.1.0, g.rests.1.1) in
        busy (
          up',
          ls,
          record {
            pile = ap (drop (w.top + 10)) (o.same Stack refl) ∙ sym (drop-drop 10 w.top (view area Stack)) ∙ ap (drop 10) g.pile;
            rests = subst (λ s. RestsAll m s (up' ∷ ls) lv.frame.ends) (sym (same_sources o (λ t. refl))) rest;
            outs = λ t. close_one all (g.outs t) (grown t);
            used = λ t.
                omega (
                  arith,
                  (grown t).ends,
                  sealed_small m lv.frame.class lv.one lv.two lv.done t,
                  opened_long (opened (g.outs t)),
                  g.used t,
                  q.used t,
                  q.field_ends,
                  q.bench_ends,
                );
            deep = omega (arith, g.deep, o.same_limit);
            bottom = bottom_as up up' ls refl g.bottom;
            answers = ap (λ x. answer m (gained up up.left (more up.done lv.name x)) ls) (sym e) ∙ g.answers;
          },
        )

-- What is left behind a name.
onward : {m : Meaning} {area : Area} {lv : Level} {at : Sizes} {h : Here} (done : Table → Forest) → ((t : Table) → Listed (done t))
    → Rests m (sources area) lv at → Looked area at lv.frame.ends lv.left h
    → Rests m (sources area) (gained lv (behind h.name lv.left) done) (each (λ t. at_of (spot t h) + nodes (found lv h.name t)))
onward {m} {area} {lv} {at} {h} done l r k =
    let n : Table → ℕ = λ t. at_of (spot t h) + nodes (found lv h.name t) in
    record {
      lies = λ t. subst (λ p. Between (sources area t) p (pick t lv.frame.ends) (from_on (h.name + 1) (lv.left t))) (sym (pick_each n t)) (k.seen t).then;
      ascend = λ t. ascends_onward (h.name + 1) (lv.left t) (r.ascend t);
      field_obeys = obeys_onward m lv.frame.class (h.name + 1) (lv.left Field) r.field_obeys;
      bench_obeys = obeys_onward m lv.frame.class (h.name + 1) (lv.left Bench) r.bench_obeys;
      field_here = r.field_here;
      bench_here = r.bench_here;
      field_ends = r.field_ends;
      bench_ends = r.bench_ends;
      used = r.used;
      low = r.low;
      listed = l;
    }

next_of : {m : Meaning} {area : Area} {lv : Level} {at : Sizes} {h : Here} → Rests m (sources area) lv at
    → Looked area at lv.frame.ends lv.left h → Next h.name (lv.left Field) (lv.left Bench)
next_of {lv = lv} {h = h} r k = next h.name (lv.left Field) (lv.left Bench) k.least (r.ascend Field) (r.ascend Bench)

pub field_unmarked : {m : Meaning} {source : Table → List ℕ} {lv : Level} {at : Sizes} → Rests m source lv at → (k : ℕ) → is_mark (found lv k Field) ≡ false
field_unmarked {m} {lv = lv} r k = unmarked m (class_under m lv.frame.class k) (found lv k Field) (obeys_find m lv.frame.class (lv.left Field) k r.field_obeys)

pub bench_unmarked : {m : Meaning} {source : Table → List ℕ} {lv : Level} {at : Sizes} → Rests m source lv at → (k : ℕ) → is_mark (found lv k Bench) ≡ false
bench_unmarked {m} {lv = lv} r k = unmarked m (class_under m lv.frame.class k) (found lv k Bench) (obeys_find m lv.frame.class (lv.left Bench) k r.bench_obeys)

-- The first five steps at a name, as a verdict of the code.
abbrev pub Chosen : Level → ℕ → Step → Type 0
Chosen lv k s = first_five (found lv k Archive) (found lv k Field) (found lv k Bench) ≡ verdict s (found lv k Field) (found lv k Bench)

-- A name is settled.
pub settled_turn : {m : Meaning} {target : Outcome} {area : Area} {w : Walk} {lv : Level} {ls : List Level} → Going m target area w lv ls
    → (h : Here) → Looked area w.at lv.frame.ends lv.left h → (s : Step) → Chosen lv h.name s → ¬ (s ≡ Down)
    → (area' : Area) (at r : Sizes) → at ≡ each (λ t. at_of (spot t h) + nodes (found lv h.name t))
    → Only (New Archive ∷ New Field ∷ New Bench ∷ []) area area'
    → ((t : Table) → Grown (view area (New t)) (view area' (New t)) (pick t w.new) (pick t r) h.name (tree_of t (made s (found lv h.name Field) (found lv h.name Bench))))
    → State m target area' (record { top = w.top; at = at; new = r })
settled_turn {m} {target} {area} {w} {lv} {ls} g h k s e d area' at r ea o grown =
    let q = g.rests.0 in
    let all = made s (found lv h.name Field) (found lv h.name Bench) in
    let done = more lv.done h.name all in
    let lv' : Level = gained lv (behind h.name lv.left) done in
    let listed : (t : Table) → Listed (done t) = λ t. listed_more lv.done h.name all t (q.listed t) in
    let to : Sizes = each (λ t. at_of (spot t h) + nodes (found lv h.name t)) in
    let rest : RestsAll m (sources area) (lv' ∷ ls) to = (onward done listed q k, g.rests.1) in
    let f = (k.seen Field).since in
    let b = (k.seen Bench).since in
    let small = made_small (found lv h.name Archive) (found lv h.name Field) (found lv h.name Bench) s e d in
    subst (λ x. State m target area' (record { top = w.top; at = x; new = r })) (sym ea)
    (busy (
      lv',
      ls,
      record {
        pile = ap (drop w.top) (o.same Stack refl) ∙ g.pile;
        rests = subst (λ x. RestsAll m x (lv' ∷ ls) to) (sym (same_sources o (λ t. refl))) rest;
        outs = λ t. grow (behind h.name lv.left) all (g.outs t) (grown t);
        used = λ t. omega (arith, (grown t).ends, small t, g.used t, f, b);
        deep = omega (arith, g.deep, o.same_limit, f);
        bottom = bottom_as lv lv' ls refl g.bottom;
        answers = sym (stepped m lv ls h.name s (next_of q k) (field_unmarked q h.name) e d) ∙ g.answers;
      },
    ))

-- The children of a place.
inner : {ws : List ℕ} {k : ℕ} {s : Spot} {t : Tree} → At ws k s t → Between ws (at_of s + own t) (at_of s + nodes t) (children t)
inner {ws} {s = s} (gone f) = record { rest = drop (3 * (at_of s + 0)) ws; row = record { well_formed = tt; words = refl }; ends = omega arith }
inner {ws} {k} {s} (there {t} {p = p} f h) =
    let e : own t ≡ 1 = ap (λ b. cond b 1 0) (sym (found_present (there f h)) ∙ f) in
    subst (λ n. Between ws (at_of s + n) (at_of s + nodes t) (children t)) (sym e) (between_children h refl)

inner_ascends : {ws : List ℕ} {k : ℕ} {s : Spot} {t : Tree} → At ws k s t → Ascends (names (children t))
inner_ascends (gone f) = tt
inner_ascends (there {t} {w = w} f h) = ascends_below t w

inner_obeys : (m : Meaning) (c : Option ℕ) (t : Tree) → Obeys m c t → ObeyAll m c (children t)
inner_obeys m c missing h = tt
inner_obeys m c mark h = tt
inner_obeys m c (node f) h = h.1

at_node : {ws : List ℕ} {k : ℕ} {s : Spot} {t : Tree} (f : Forest) → At ws k s t → t ≡ node f → At ws k (Ok (at_of s)) (node f)
at_node f (gone q) e = absurd (omega (arith, ap nodes e))
at_node {ws} {k} {s} f (there q h) e = subst (At ws k (Ok (at_of s))) e (there refl h)

pub fresh_rests : {m : Meaning} {source : Table → List ℕ} (c : Option ℕ) (h : Here) (ts : Table → Tree) (new : Sizes)
    → ((t : Table) → At (source t) h.name (spot t h) (ts t)) → (s : Sinks (ts Archive) (ts Field) (ts Bench))
    → Obeys m c (ts Field) → Obeys m c (ts Bench) → ((t : Table) → pick t new ≤ at_of h.places.field + at_of h.places.bench)
    → at_of h.places.archive + nodes (ts Archive) ≤ 4096
    → Rests m source (fresh h.name (frame_for c h ts new) s.one s.two (λ t. children (ts t))) (each (λ t. at_of (spot t h) + own (ts t)))
fresh_rests {m} {source} c h ts new finds s of ob used low =
    record {
      lies = by_table _ (inner (finds Archive)) (inner (finds Field)) (inner (finds Bench));
      ascend = λ t. inner_ascends (finds t);
      field_obeys = inner_obeys m c (ts Field) of;
      bench_obeys = inner_obeys m c (ts Bench) ob;
      field_here = at_node s.one (finds Field) s.is_one;
      bench_here = at_node s.two (finds Bench) s.is_two;
      field_ends = ap (λ t. at_of h.places.field + nodes t) s.is_one;
      bench_ends = ap (λ t. at_of h.places.bench + nodes t) s.is_two;
      used = used;
      low = low;
      listed = λ t. tt;
    }

-- The walk goes down at a name.
pub down_turn : {m : Meaning} {target : Outcome} {area : Area} {w : Walk} {lv : Level} {ls : List Level} → Going m target area w lv ls
    → (h : Here) → Looked area w.at lv.frame.ends lv.left h → Chosen lv h.name Down
    → (area' : Area) (class : Option ℕ) (r : Walk) → class ≡ class_under m lv.frame.class h.name
    → Opens area area' class h (found lv h.name) w r
    → Only (New Archive ∷ New Field ∷ New Bench ∷ Stack ∷ []) area area'
    → State m target area' r
down_turn {m} {target} {area} {w} {lv} {ls} g h k e area' class r ec opens o =
    let q = g.rests.0 in
    let c = class_under m lv.frame.class h.name in
    let ts = found lv h.name in
    let p = subst (λ z. Opens area area' z h ts w r) ec opens in
    let s = sinks (ts Archive) (ts Field) (ts Bench) (field_unmarked q h.name) (bench_unmarked q h.name) e in
    let frame = frame_for c h ts w.new in
    let new : Level = fresh h.name frame s.one s.two (λ t. children (ts t)) in
    let lv' : Level = gained lv (behind h.name lv.left) lv.done in
    let f = (k.seen Field).since in
    let b = (k.seen Bench).since in
    let here =
    fresh_rests {m = m} {source = sources area} c h ts w.new (λ t. (k.seen t).here) s
    (obeys_find m lv.frame.class (lv.left Field) h.name q.field_obeys)
    (obeys_find m lv.frame.class (lv.left Bench) h.name q.bench_obeys)
    (λ t. omega (arith, g.used t, f, b)) (omega (arith, (k.seen Archive).then.ends, q.low)) in
    let rest : RestsAll m (sources area) (new ∷ lv' ∷ ls) (each (λ t. at_of (spot t h) + own (ts t))) =
    (here, (onward lv.done q.listed q k, g.rests.1)) in
    let af : r.at.field ≡ at_of h.places.field + 1 = ap (λ x. x.field) p.at ∙ ap (λ t. at_of h.places.field + own t) s.is_one in
    let ab : r.at.bench ≡ at_of h.places.bench + 1 = ap (λ x. x.bench) p.at ∙ ap (λ t. at_of h.places.bench + own t) s.is_two in
    let st = standing g in
    let nf = ap nodes s.is_one in
    let nb = ap nodes s.is_two in
    let room : (t : Table) → 3 * pick t r.new ≤ length (view area' (New t)) =
    λ t.
    omega (
      arith,
      p.new t,
      g.used t,
      f,
      b,
      (k.seen Field).then.ends,
      (k.seen Bench).then.ends,
      st.field_low,
      st.bench_low,
      view_length area (New t),
      same_length o (New t),
    ) in
    let v = opened_value m h.name frame (ts Archive) (ts Field) (ts Bench) s (λ t. children (ts t)) refl (ap children s.is_one) (ap children s.is_two) e in
    busy (
      new,
      lv' ∷ ls,
      record {
        pile = p.pile ∙ ap (λ l. frame_words frame ++ l) g.pile;
        rests =
            subst (λ x. RestsAll m x (new ∷ lv' ∷ ls) r.at) (sym (same_sources o (λ t. refl)))
            (subst (λ x. RestsAll m (sources area) (new ∷ lv' ∷ ls) x) (sym p.at) rest);
        outs = λ t. open_one (behind h.name lv.left) new (g.outs t) refl refl refl (p.words t) (room t);
        used = λ t. omega (arith, p.new t, g.used t, f, b);
        deep = omega (arith, g.deep, o.same_limit, f, p.top);
        bottom = bottom_as lv lv' ls refl g.bottom;
        answers = sym (ap (resume m ls lv.name) (turned m lv h.name (next_of q k) (value m new) v)) ∙ g.answers;
      },
    )
