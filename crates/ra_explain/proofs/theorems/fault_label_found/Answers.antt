use Rattle.ra_explain.proofs.TheoremIndex.{fault_label_found}
use Rattle.ra_explain.proofs.theorems.fault_label_found.Goals as goal

pub returns : goal.returns
returns c = fault_label_found
