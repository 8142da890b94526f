use Rattle.merging.proofs.Fronts.{seen}
use Rattle.merging.proofs.Leads.{between_as}
use Rattle.merging.proofs.places.lookup.Goals as goal

pub seek-requires : goal.seek-requires
seek-requires c = (_, between_as c.part.ensures.words c.requires.1)

pub returns : goal.returns
returns c f b a =
    let x = between_as c.part.ensures.words b in
    seen c.args.name b a (c.seek.ensures.stops _ x) (c.seek.ensures.tells _ x)
