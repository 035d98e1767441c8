use Rattle.ra_monitor.proofs.LogTheorems.{no_is_at_fault}
use Rattle.ra_monitor.proofs.theorems.reply_no_iff_fault.Goals as goal

pub returns : goal.returns
returns c = no_is_at_fault
