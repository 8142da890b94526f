use Rattle.std.proofs.Common.{◌≡◌, length, refl, subst, arith}
use Rattle.editing.specs.Paths.{Reaches}
use Rattle.editing.proofs.Carried.{some_present}
use Rattle.editing.proofs.Routes.{sets_out, no_further, further, arrives, reaches, reaches_nothing}
use Rattle.editing.proofs.reaching.reach.Goals as goal

pub returns-then-count-eq0 : goal.returns-then-count-eq0
returns-then-count-eq0 c t h u = reaches_nothing (omega (arith, h.count, c.if-count-eq0.true))

pub loop-names-init : goal.loop-names-init
loop-names-init c t h u = sets_out c.args.path.now h (some_present t _ h.count c.if-count-eq0.false) u

pub child-requires : goal.child-requires
child-requires c = (_, (c.loop-names.invariant c.requires.0 c.requires.1 c.requires.2).here)

pub returns-in_default : goal.returns-in_default
returns-in_default c t h u =
    let a = c.loop-names.invariant t h u in
    reaches a (no_further a _ (omega arith) refl (c.in_default.ensures _ a.here))

pub loop-names-preserved : goal.loop-names-preserved
loop-names-preserved c t h u =
    let a = c.loop-names.invariant t h u in
    further a _ _ (omega arith) refl (c.in-Some.ensures _ a.here)

pub returns : goal.returns
returns c t h u =
    let a = c.loop-names.invariant t h u in
    let e : c.loop-names.names ≡ length c.args.path.now = omega arith in
    subst (λ n. Reaches c.args.words.now t c.args.path.now (record { names = n; at = c.loop-names.at })) e
    (reaches a (arrives a c.loop-names-test.false))
