use Rattle.ra_theorems.proofs.TheoremIndex.{named_labels_sorted-same, named_labels_sorted-sorted}
use Rattle.ra_theorems.proofs.TheoremIndex.{named_labels_sorted-among}
use Rattle.ra_theorems.proofs.theorems.sequence.named_labels_sorted.Goals as goal

pub returns-clause-same : goal.returns-clause-same
returns-clause-same c = named_labels_sorted-same

pub returns-clause-sorted : goal.returns-clause-sorted
returns-clause-sorted c = named_labels_sorted-sorted

pub returns-clause-among : goal.returns-clause-among
returns-clause-among c = named_labels_sorted-among
