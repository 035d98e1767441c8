use Rattle.ra_visibility.proofs.TheoremIndex.{delivered_prefix_by_counts-seen, delivered_prefix_by_counts-delivered}
use Rattle.ra_visibility.proofs.theorems.delivered_prefix_by_counts.Goals as goal

pub returns-clause-seen : goal.returns-clause-seen
returns-clause-seen c = delivered_prefix_by_counts-seen

pub returns-clause-delivered : goal.returns-clause-delivered
returns-clause-delivered c = delivered_prefix_by_counts-delivered
