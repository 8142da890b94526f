use Rattle.std.proofs.Common.{sym, ◌∙◌}
use Rattle.std.proofs.lemmas.Slice.Eq.{slice_eq-Decides}
use Rattle.std.proofs.lemmas.Bool.Decides.{Decides-eqb}
use Rattle.stored.proofs.Unique.{body_tells, tree_tells, decided}
use Rattle.stored.proofs.Once.{open_owned}
use Rattle.stored.proofs.Own.{own, unnamed}
use Rattle.stored.proofs.types.Node.same.Goals as goal

pub returns : goal.returns
returns c =
    let a = open_owned c.args.self.ok in
    let b = open_owned c.args.other.ok in
    let d = slice_eq-Decides Decides-eqb _ _ _ c.eq.ensures in
    decided _ _ _ (λ e. body_tells (own a) (own b) (sym (unnamed a) ∙ d.0 e ∙ unnamed b), λ e. d.1 (unnamed a ∙ tree_tells (own a) (own b) e ∙ sym (unnamed b)))
