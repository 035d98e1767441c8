use Rattle.ra_theorems.proofs.TheoremIndex.{sequence_cause_none_iff}
use Rattle.ra_theorems.proofs.theorems.fault.sequence_cause_none_iff.Goals as goal

pub returns : goal.returns
returns c = sequence_cause_none_iff
