use Rattle.ra_theorems.proofs.TheoremIndex.{named_sequence_has_each_part_once}
use Rattle.ra_theorems.proofs.theorems.sequence.named_sequence_has_each_part_once.Goals as goal

pub returns : goal.returns
returns c = named_sequence_has_each_part_once
