use Rattle.std.proofs.Common.{◌≡◌, ℕ, ◌+◌, ◌-◌, ◌<◌, ◌≤◌, Bor, List, length, refl, arith, sym, ◌∙◌, ap, subst, Some, None}
use Rattle.model.specs.Trees.{Tree, names}
use Rattle.model.specs.Faults.{or_else, fault_from}
use Rattle.records.specs.declared.Entry.{Entry}
use Rattle.records.specs.Bytes.{entries_of}
use Rattle.obeying.specs.Heading.{Heads}
use Rattle.records.proofs.Fits.{names_few}
use Rattle.obeying.proofs.Walking.{below, or_is, alone, first_and_rest, opened, begun, Stage, going_on, ahead, turn_last, turn_on, ended, answered, closed}
use Rattle.obeying.proofs.Test.+node.Goals.{then-i-children, else-i-children+then-child-eq0, else-i-children+else-child-eq0}
use Rattle.obeying.proofs.Test.+node.Goals as goal

pub split_at_mut-own-requires : goal.split_at_mut-own-requires
split_at_mut-own-requires g t c =
    let o = opened (g.R.Rulebook.meaning c.args.self.now.rules.now) c.args.class c.requires.tree.3 (λ y. absurd (omega (arith, y, c.requires.tree.4, c.requires.some))) in
    omega (arith, o.many, o.number, names_few _ o.formed, c.requires.tree.4, c.requires.tree.5)

pub loop-i-init : goal.loop-i-init
loop-i-init g t c = (
  omega arith,
  λ e x more h z.
      begun c.args.self.now.count _ c.split_at_mut-own.result.0.now (opened (g.R.Rulebook.meaning c.args.self.now.rules.now) c.args.class h (λ y. absurd (omega (arith, y, z, c.requires.some)))) c.requires.number c.number-at.ensures,
)

pub unwrap-requires : goal.unwrap-requires
unwrap-requires g t c =
    let m = g.R.Rulebook.meaning c.args.self.now.rules.now in
    let o = opened m c.args.class c.requires.tree.3 (λ y. absurd (omega (arith, y, c.requires.tree.4, c.requires.some))) in
    let s = going_on m _ _ _ _ _ _ _ _ _ _ (c.loop-i.invariant.1 _ _ _ c.requires.tree.3 c.requires.tree.4) (omega (arith, c.loop-i-test.true, c.loop-i.auto.own)) in
    let a = ahead s (omega (arith, o.many, c.requires.tree.4, c.loop-i-test.true, c.split_at_mut-own.ensures.front_len)) in
    c.split_first.ensures.variant.1 a.some

pub number-requires : goal.number-requires
number-requires g t c =
    let p = first_and_rest c.unwrap.ensures c.split_first.ensures.cases in
    omega (arith, p.1, c.loop-i.invariant.0, c.requires.number)

pub node-fault-requires : goal.node-fault-requires
node-fault-requires g t c =
    let m = g.R.Rulebook.meaning c.args.self.now.rules.now in
    let o = opened m c.args.class c.requires.tree.3 (λ y. absurd (omega (arith, y, c.requires.tree.4, c.requires.some))) in
    let s = going_on m _ _ _ _ _ _ _ _ _ _ (c.loop-i.invariant.1 _ _ _ c.requires.tree.3 c.requires.tree.4) (omega (arith, c.loop-i-test.true, c.loop-i.auto.own)) in
    let a = ahead s (omega (arith, o.many, c.requires.tree.4, c.loop-i-test.true, c.split_at_mut-own.ensures.front_len)) in
    let p = first_and_rest c.unwrap.ensures c.split_first.ensures.cases in
    λ κs l. (
      omega (arith, p.1, c.loop-i.invariant.0, c.decreases),
      (
        l,
        (
          (
            c.from-child.result,
            a.tree,
            a.behind,
            a.heads _ _ _ p.0 c.from-child.ensures,
            refl,
            omega (arith, a.small, o.many, o.number, c.requires.tree.4, c.requires.tree.5, c.split_at_mut-own.ensures.front_len, c.split_at_mut-own.ensures.back_len, c.loop-i.auto.room),
          ),
          (omega (arith, c.if-child-eq0.false), omega (arith, p.1, c.loop-i.invariant.0, c.requires.number)),
        ),
      ),
    )

pub loop-i-preserved : goal.loop-i-preserved
loop-i-preserved g t c =
    let m = g.R.Rulebook.meaning c.args.self.now.rules.now in
    let p = first_and_rest c.unwrap.ensures c.split_first.ensures.cases in
    let l : c.loop-i.i < length c.loop-i.own = omega (arith, c.loop-i-test.true, c.loop-i.auto.own) in
    let b : length c.loop-i.rest.now ≤ c.args.self.now.count = omega (arith, c.loop-i.invariant.0, c.requires.number) in
    let many : (e : Entry) (x : Tree) (more : List Entry) → Heads e (entries_of c.args.rest.now.now) x more → e.children ≡ c.args.children → length c.loop-i.own ≡ length (names (below x)) =
    λ e x more h z. (let o = opened m c.args.class h (λ y. absurd (omega (arith, y, z, c.requires.some))) in omega (arith, z, o.many, c.loop-i.auto.own, c.split_at_mut-own.ensures.front_len)) in
    elim c.if-i-children.branch [
      | then-i-children w ↦
          let y = ap (λ (k : Bor (List (List ℕ))). k.now) w.rest-is in (
            omega (arith, ap length y, p.1, c.loop-i.invariant.0),
            λ e x more h z.
                turn_last m _ _ _ _ _ _ _ _ _ c.loop-i.last (c.loop-i.invariant.1 e x more h z) (many e x more h z) (omega (arith, w.if-i-children.true, c.loop-i.auto.own, c.split_at_mut-own.ensures.front_len)) b p.0 c.from-child.ensures c.class_under-under.ensures w.fault-is y w.last-is,
          )
      | else-i-children+then-child-eq0 w ↦
          let y = ap (λ (k : Bor (List (List ℕ))). k.now) w.rest-is in
          let tested : (u : Tree) (behind : List Entry) → Heads c.from-child.result (entries_of c.unwrap.result.1.now) u behind
          → (w.leaf-fault.result ≡ or_else c.loop-i.fault (fault_from m c.class_under-under.result u (c.args.self.now.count - 1 - length c.unwrap.result.1.now))) × (entries_of c.unwrap.result.1.now ≡ behind) =
          λ u behind k.
          (w.leaf-fault.ensures u _ behind k w.if-child-eq0.true ∙ ap (λ n. or_else c.loop-i.fault (fault_from m c.class_under-under.result u n)) w.number.ensures, alone k w.if-child-eq0.true) in (
            omega (arith, ap length y, p.1, c.loop-i.invariant.0),
            λ e x more h z.
                (turn_on m _ _ _ _ _ _ _ _ _ c.loop-i.last (c.loop-i.invariant.1 e x more h z) (many e x more h z) l b p.0 c.from-child.ensures c.class_under-under.ensures tested w.fault-is y w.last-is).0,
          )
      | else-i-children+else-child-eq0 w ↦
          let y = ap (λ (k : Bor (List (List ℕ))). k.now) w.rest-is in
          let tested : (u : Tree) (behind : List Entry) → Heads c.from-child.result (entries_of c.unwrap.result.1.now) u behind
          → (w.node-fault.result ≡ or_else c.loop-i.fault (fault_from m c.class_under-under.result u (c.args.self.now.count - 1 - length c.unwrap.result.1.now))) × (entries_of w.node-fault.new.rest.now ≡ behind) =
          λ u behind k. (w.node-fault.ensures.fault _ u behind k refl, w.node-fault.ensures.behind _ u behind k refl) in
          let turn = λ (e : Entry) (x : Tree) (more : List Entry) (h : Heads e (entries_of c.args.rest.now.now) x more) (z : e.children ≡ c.args.children).
          turn_on m _ _ _ _ _ _ _ _ _ c.loop-i.last (c.loop-i.invariant.1 e x more h z) (many e x more h z) l b p.0 c.from-child.ensures c.class_under-under.ensures tested w.fault-is y w.last-is in
          (omega (arith, (turn _ _ _ c.requires.tree.3 c.requires.tree.4).1, c.loop-i.invariant.0), λ e x more h z. (turn e x more h z).0)
    ]

pub number-requires-then-child-eq0-2 : goal.number-requires-then-child-eq0-2
number-requires-then-child-eq0-2 g t c = omega (arith, c.loop-i.invariant.0, c.requires.number)

pub node-requires : goal.node-requires
node-requires g t c =
    let m = g.R.Rulebook.meaning c.args.self.now.rules.now in
    let o = opened m c.args.class c.requires.tree.3 (λ y. absurd (omega (arith, y, c.requires.tree.4, c.requires.some))) in
    let s = subst (Stage m c.args.class c.args.self.now.count (below c.requires.tree.1) c.requires.tree.2 c.number-at.result c.loop-i.i c.loop-i.own c.loop-i.fault c.loop-i.rest.now) c.in-Some.is (c.loop-i.invariant.1 _ _ _ c.requires.tree.3 c.requires.tree.4) in
    λ κs l. (
      omega (arith, s.some, c.loop-i.invariant.0, c.decreases),
      (
        l,
        (
          (
            c.in-Some.child,
            s.tree,
            s.behind,
            s.heads,
            refl,
            omega (arith, s.small, o.many, o.number, c.requires.tree.4, c.requires.tree.5, c.split_at_mut-own.ensures.front_len, c.split_at_mut-own.ensures.back_len, c.loop-i.auto.room),
          ),
          (omega arith, omega (arith, c.loop-i.invariant.0, c.requires.number)),
        ),
      ),
    )

pub returns-in_default-clause-fault : goal.returns-in_default-clause-fault
returns-in_default-clause-fault g t c = λ e x more h z.
    let m = g.R.Rulebook.meaning c.args.self.now.rules.now in
    let o = opened m c.args.class h (λ y. absurd (omega (arith, y, z, c.requires.some))) in
    let s = subst (Stage m c.args.class c.args.self.now.count (below x) more c.number-at.result c.loop-i.i c.loop-i.own c.loop-i.fault c.loop-i.rest.now) c.in_default.is (c.loop-i.invariant.1 e x more h z) in
    let n : length c.loop-i.own ≡ length (names (below x)) = omega (arith, z, o.many, c.loop-i.auto.own, c.split_at_mut-own.ensures.front_len) in
    let e = ended s n (omega (arith, c.loop-i-test.false, c.loop-i.auto.own)) in
    c.or-found.ensures ∙ or_is c.args.before c.own.result ∙ ap (or_else c.args.before) (c.own.ensures ∙ answered o e ∙ ap (fault_from m c.args.class x) c.number-at.ensures)

pub returns-in_default-clause-behind : goal.returns-in_default-clause-behind
returns-in_default-clause-behind g t c = λ e x more h z.
    let m = g.R.Rulebook.meaning c.args.self.now.rules.now in
    let o = opened m c.args.class h (λ y. absurd (omega (arith, y, z, c.requires.some))) in
    let s = subst (Stage m c.args.class c.args.self.now.count (below x) more c.number-at.result c.loop-i.i c.loop-i.own c.loop-i.fault c.loop-i.rest.now) c.in_default.is (c.loop-i.invariant.1 e x more h z) in
    let n : length c.loop-i.own ≡ length (names (below x)) = omega (arith, z, o.many, c.loop-i.auto.own, c.split_at_mut-own.ensures.front_len) in
    (ended s n (omega (arith, c.loop-i-test.false, c.loop-i.auto.own))).more_is

pub returns-then-child-eq0-2-clause-fault : goal.returns-then-child-eq0-2-clause-fault
returns-then-child-eq0-2-clause-fault g t c = λ e x more h z.
    let m = g.R.Rulebook.meaning c.args.self.now.rules.now in
    let o = opened m c.args.class h (λ y. absurd (omega (arith, y, z, c.requires.some))) in
    let s = subst (Stage m c.args.class c.args.self.now.count (below x) more c.number-at.result c.loop-i.i c.loop-i.own c.loop-i.fault c.loop-i.rest.now) c.in-Some.is (c.loop-i.invariant.1 e x more h z) in
    let n : length c.loop-i.own ≡ length (names (below x)) = omega (arith, z, o.many, c.loop-i.auto.own, c.split_at_mut-own.ensures.front_len) in
    (closed c.args.before o s n c.own.ensures c.or-found.ensures
    (c.leaf.ensures s.tree _ s.behind s.heads c.if-child-eq0-2.true ∙ ap (λ k. or_else c.or-found.result (fault_from m c.in-Some.under s.tree k)) c.number-then-child-eq0-2.ensures)
    c.loop-i.rest.now (alone s.heads c.if-child-eq0-2.true)).0
    ∙ ap (λ k. or_else c.args.before (fault_from m c.args.class x k)) c.number-at.ensures

pub returns-then-child-eq0-2-clause-behind : goal.returns-then-child-eq0-2-clause-behind
returns-then-child-eq0-2-clause-behind g t c = λ e x more h z.
    let m = g.R.Rulebook.meaning c.args.self.now.rules.now in
    let o = opened m c.args.class h (λ y. absurd (omega (arith, y, z, c.requires.some))) in
    let s = subst (Stage m c.args.class c.args.self.now.count (below x) more c.number-at.result c.loop-i.i c.loop-i.own c.loop-i.fault c.loop-i.rest.now) c.in-Some.is (c.loop-i.invariant.1 e x more h z) in
    let n : length c.loop-i.own ≡ length (names (below x)) = omega (arith, z, o.many, c.loop-i.auto.own, c.split_at_mut-own.ensures.front_len) in
    (closed c.args.before o s n c.own.ensures c.or-found.ensures
    (c.leaf.ensures s.tree _ s.behind s.heads c.if-child-eq0-2.true ∙ ap (λ k. or_else c.or-found.result (fault_from m c.in-Some.under s.tree k)) c.number-then-child-eq0-2.ensures)
    c.loop-i.rest.now (alone s.heads c.if-child-eq0-2.true)).1

pub returns-clause-fault : goal.returns-clause-fault
returns-clause-fault g t c = λ e x more h z.
    let m = g.R.Rulebook.meaning c.args.self.now.rules.now in
    let o = opened m c.args.class h (λ y. absurd (omega (arith, y, z, c.requires.some))) in
    let s = subst (Stage m c.args.class c.args.self.now.count (below x) more c.number-at.result c.loop-i.i c.loop-i.own c.loop-i.fault c.loop-i.rest.now) c.in-Some.is (c.loop-i.invariant.1 e x more h z) in
    let n : length c.loop-i.own ≡ length (names (below x)) = omega (arith, z, o.many, c.loop-i.auto.own, c.split_at_mut-own.ensures.front_len) in
    (closed c.args.before o s n c.own.ensures c.or-found.ensures (c.node.ensures.fault _ s.tree s.behind s.heads refl) c.node.new.rest.now (c.node.ensures.behind _ s.tree s.behind s.heads refl)).0
    ∙ ap (λ k. or_else c.args.before (fault_from m c.args.class x k)) c.number-at.ensures

pub returns-clause-behind : goal.returns-clause-behind
returns-clause-behind g t c = λ e x more h z.
    let m = g.R.Rulebook.meaning c.args.self.now.rules.now in
    let o = opened m c.args.class h (λ y. absurd (omega (arith, y, z, c.requires.some))) in
    let s = subst (Stage m c.args.class c.args.self.now.count (below x) more c.number-at.result c.loop-i.i c.loop-i.own c.loop-i.fault c.loop-i.rest.now) c.in-Some.is (c.loop-i.invariant.1 e x more h z) in
    let n : length c.loop-i.own ≡ length (names (below x)) = omega (arith, z, o.many, c.loop-i.auto.own, c.split_at_mut-own.ensures.front_len) in
    (closed c.args.before o s n c.own.ensures c.or-found.ensures (c.node.ensures.fault _ s.tree s.behind s.heads refl) c.node.new.rest.now (c.node.ensures.behind _ s.tree s.behind s.heads refl)).1
