use Rattle.ra_theorems.proofs.TheoremIndex.{delivered_updates_eq_filter-delivered, delivered_updates_eq_filter-seen}
use Rattle.ra_theorems.proofs.theorems.passing.delivered_updates_eq_filter.Goals as goal

pub returns-clause-delivered : goal.returns-clause-delivered
returns-clause-delivered c = delivered_updates_eq_filter-delivered

pub returns-clause-seen : goal.returns-clause-seen
returns-clause-seen c = delivered_updates_eq_filter-seen
