use Rattle.loading.proofs.Held.{all_held}
use Rattle.loading.proofs.load.Goals as goal

pub returns-clause-holds : goal.returns-clause-holds
returns-clause-holds g c =
    all_held c.in_ok-views.views c.in_ok-views.ensures.few c.limit.ensures c.bring.ensures.stored c.bring.ensures.only c.bring-2.ensures.stored c.bring-2.ensures.only c.bring-3.ensures.stored
    c.bring-3.ensures.only
