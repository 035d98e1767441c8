use Rattle.ra_monitor.proofs.LogTheorems.{may_follow}
use Rattle.ra_monitor.proofs.theorems.legal_log_entries.Goals as goal

pub returns : goal.returns
returns c = may_follow
