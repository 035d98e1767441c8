use Rattle.ra_theorems.proofs.TheoremIndex.{named_sequence_complete}
use Rattle.ra_theorems.proofs.theorems.any_order.named_sequence_complete.Goals as goal

pub returns : goal.returns
returns c = named_sequence_complete
