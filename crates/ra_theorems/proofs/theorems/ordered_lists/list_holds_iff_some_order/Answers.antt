use Rattle.ra_theorems.proofs.TheoremIndex.{list_holds_iff_some_order-named, list_holds_iff_some_order-any}
use Rattle.ra_theorems.proofs.theorems.ordered_lists.list_holds_iff_some_order.Goals as goal

pub returns-clause-named : goal.returns-clause-named
returns-clause-named c = list_holds_iff_some_order-named

pub returns-clause-any : goal.returns-clause-any
returns-clause-any c = list_holds_iff_some_order-any
