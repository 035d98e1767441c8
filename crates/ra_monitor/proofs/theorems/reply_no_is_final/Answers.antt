use Rattle.ra_monitor.proofs.LogTheorems.{no_is_final}
use Rattle.ra_monitor.proofs.theorems.reply_no_is_final.Goals as goal

pub returns : goal.returns
returns c = no_is_final
