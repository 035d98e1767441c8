use Rattle.ra_some_order.proofs.KeptExplanations.{explained_if_holds, explained_with_update, explained_with_delivery, explained_with_join, explained_at_update}
use Rattle.ra_some_order.proofs.theorems.updates_stay_explained.Goals as goal

pub returns-clause-holds : goal.returns-clause-holds
returns-clause-holds c = explained_if_holds

pub returns-clause-update : goal.returns-clause-update
returns-clause-update c = explained_with_update

pub returns-clause-delivery : goal.returns-clause-delivery
returns-clause-delivery c = explained_with_delivery

pub returns-clause-join : goal.returns-clause-join
returns-clause-join c = explained_with_join

pub returns-clause-fault : goal.returns-clause-fault
returns-clause-fault c = explained_at_update
