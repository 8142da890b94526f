use Rattle.std.proofs.Common.{◌≡◌, ℕ, ◌+◌, ◌-◌, ◌*◌, length, take, drop, ap, ◌∙◌, mul_comm, arith}
use Rattle.area.specs.Layout.{start, width}
use Rattle.area.specs.Views.{part, view}
use Rattle.area.proofs.Parts.{region_fits, view_length}
use Rattle.area.proofs.types.Area.part.Goals as goal

sized : (l w k : ℕ) → w ≡ k → w * l ≡ l * k
sized l w k e = mul_comm w l ∙ ap (λ n. l * n) e

pub overflow_mul-to : goal.overflow_mul-to
overflow_mul-to c = omega (arith, region_fits c.args.self.now c.args.r, sized c.args.self.now.limit _ _ c.width.ensures)

pub overflow_add-to : goal.overflow_add-to
overflow_add-to c = omega (arith, region_fits c.args.self.now c.args.r, sized c.args.self.now.limit _ _ c.width.ensures)

pub offset_bounds-as_slice-from : goal.offset_bounds-as_slice-from
offset_bounds-as_slice-from c = omega (arith, region_fits c.args.self.now c.args.r, c.as_slice.ensures.len)

pub slice_bounds-result-end : goal.slice_bounds-result-end
slice_bounds-result-end c = omega (arith, region_fits c.args.self.now c.args.r, sized c.args.self.now.limit _ _ c.width.ensures, c.as_slice.ensures.len)

pub returns : goal.returns
unfolding part view
returns c =
    let a = c.args.self.now in
    let from = c.place-from.result in
    let size = c.width.result * a.limit in
    let e = sized a.limit _ _ c.width.ensures in
    let p : from ≡ a.limit * start c.args.r = omega arith in
    let w : from + size - from ≡ a.limit * width c.args.r = omega arith in
    let v : take (from + size - from) (drop from c.as_slice.result.now) ≡ view a c.args.r = cc c.as_slice.ensures.value in
    record { words = v; long = ap length v ∙ view_length a c.args.r }
