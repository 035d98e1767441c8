use Rattle.ra_monitor.proofs.LogTheorems.{yes_is_evidence}
use Rattle.ra_monitor.proofs.theorems.yes_implies_linearization.Goals as goal

pub returns : goal.returns
returns c = yes_is_evidence
