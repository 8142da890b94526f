use Rattle.std.proofs.Common.{◌*◌, refl, ap}
use Rattle.records.specs.Views.{tree_of}
use Rattle.intake.proofs.Bringing.{brought}
use Rattle.intake.proofs.bring.Goals as goal

pub returns : goal.returns
returns c =
    record {
      stored = brought (tree_of c.args.view) (3 * c.count-size.result) _ _ _ _ _ (ap (λ k. 3 * k) c.count-size.ensures) c.store.ensures refl c.write.ensures.here;
      only = c.write.ensures.only;
    }
