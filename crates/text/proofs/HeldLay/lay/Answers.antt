use Rattle.std.proofs.Common.{arith}
use Rattle.stored.proofs.Once.{open_whole}
use Rattle.stored.specs.Nodes.{tree_held}
use Rattle.text.proofs.Texts.{text_short}
use Rattle.text.proofs.HeldLay.lay.Goals as goal

pub returns-clause-short : goal.returns-clause-short
returns-clause-short c =
    let h = open_whole c.args.self.now.ok in
    let l = text_short (tree_held c.args.self.now) h.well_formed h.names in
    omega (arith, h.few)
