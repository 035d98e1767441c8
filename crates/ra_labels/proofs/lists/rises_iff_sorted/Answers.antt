use Rattle.ra_labels.proofs.TheoremIndex.{rises_iff_sorted-places, rises_iff_sorted-sorted}
use Rattle.ra_labels.proofs.lists.rises_iff_sorted.Goals as goal

pub returns-clause-places : goal.returns-clause-places
returns-clause-places c = rises_iff_sorted-places

pub returns-clause-sorted : goal.returns-clause-sorted
returns-clause-sorted c = rises_iff_sorted-sorted
