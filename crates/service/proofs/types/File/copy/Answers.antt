use Rattle.editing.proofs.Carried.{carried_holds}
use Rattle.service.proofs.Files.{side_held}
use Rattle.service.proofs.types.File.copy.Goals as goal

pub returns-clause-holds : goal.returns-clause-holds
returns-clause-holds c = carried_holds c.part.ensures.words (side_held c.args.self.now c.args.side _ c.into-table.ensures _ c.get.ensures)
