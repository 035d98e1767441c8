use Rattle.ra_monitor.proofs.LogTheorems.{tickets_increase}
use Rattle.ra_monitor.proofs.theorems.tickets_increase.Goals as goal

pub returns : goal.returns
returns c = tickets_increase
