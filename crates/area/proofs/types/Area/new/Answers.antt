use Rattle.std.proofs.Common.{arith}
use Rattle.area.specs.Layout.{limit_of}
use Rattle.area.specs.Views.{limit}
use Rattle.area.proofs.types.Area.new.Goals as goal

pub invariant_of-result : goal.invariant_of-result
unfolding limit_of
invariant_of-result c = record { ok = omega (arith, c.len.ensures, c.saturating_sub.ensures, c.min-limit.ensures) }

pub returns : goal.returns
unfolding limit_of limit
returns c = omega (arith, c.len.ensures, c.saturating_sub.ensures, c.min-limit.ensures)
