use Rattle.std.proofs.Common.{◌≡◌, ◌+◌, ◌-◌, length, vec_items, sym, refl, ap, ◌∙◌, arith}
use borrow.Rule.Slice.PartMut.{put_mid}
use lib.Seq.{paste}
use Rattle.std.proofs.lemmas.List.{with_items_is}
use Rattle.std.proofs.lemmas.Slice.{put_mid-paste}
use Rattle.std.proofs.lemmas.List.Edits.{length-paste}
use Rattle.area.specs.Views.{limit}
use Rattle.area.proofs.Parts.{region_fits, written}
use Rattle.area.proofs.types.Area.write.Goals as goal

pub overflow_add-first : goal.overflow_add-first
unfolding limit
overflow_add-first c = omega (arith, region_fits c.args.self.now c.args.r)

pub overflow_add-first-2 : goal.overflow_add-first-2
unfolding limit
overflow_add-first-2 c = omega (arith, region_fits c.args.self.now c.args.r)

pub offset_bounds-as_mut_slice-first : goal.offset_bounds-as_mut_slice-first
unfolding limit
offset_bounds-as_mut_slice-first c = omega (arith, region_fits c.args.self.now c.args.r, c.as_mut_slice.ensures.len)

pub slice_bounds-copy_from_slice-end : goal.slice_bounds-copy_from_slice-end
unfolding limit
slice_bounds-copy_from_slice-end c = omega (arith, region_fits c.args.self.now c.args.r, c.as_mut_slice.ensures.len)

pub returns : goal.returns
unfolding limit
returns c =
    let a = c.args.self.now in
    let ws = c.args.words.now in
    let at = c.place.result + c.args.i in
    let old = vec_items a.words in
    let d : length ws ≡ at + length ws - at = omega arith in
    let p : put_mid at (at + length ws - at) c.as_mut_slice.result.now c.copy_from_slice.new.self ≡ paste old at ws (length ws) =
    put_mid-paste at _ _ _ ws (length ws) c.copy_from_slice.ensures.after d refl ∙ ap (λ xs. paste xs at ws (length ws)) c.as_mut_slice.ensures.value in
    let q = ap length p ∙ length-paste old at ws (length ws) (omega (arith, region_fits a c.args.r, a.words.ok.0)) (omega arith) ∙ sym a.words.ok.0 in
    let w = written a _ c.args.r c.args.i ws (length ws) at c.requires (omega arith) refl (omega arith) (with_items_is a.words _ q ∙ p) in
    record { here = w.here; only = w.only }
