use Rattle.std.proofs.Common.{◌*◌, ap, ◌∙◌, mul_comm, arith}
use Rattle.area.proofs.Parts.{region_fits}
use Rattle.area.proofs.types.Area.place.Goals as goal

pub overflow_mul-result : goal.overflow_mul-result
overflow_mul-result c =
    let a = c.args.self.now in
    omega (arith, mul_comm c.start.result a.limit, ap (λ k. a.limit * k) c.start.ensures, region_fits a c.args.r)

pub returns : goal.returns
returns c =
    let a = c.args.self.now in
    mul_comm c.start.result a.limit ∙ ap (λ k. a.limit * k) c.start.ensures
