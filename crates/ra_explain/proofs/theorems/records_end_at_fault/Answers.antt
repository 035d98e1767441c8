use Rattle.ra_explain.proofs.TheoremIndex.{records_end_at_fault}
use Rattle.ra_explain.proofs.theorems.records_end_at_fault.Goals as goal

pub returns : goal.returns
returns c = records_end_at_fault
