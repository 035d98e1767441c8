use Rattle.ra_ticket.proofs.Closings.{idle_set_up}
use Rattle.ra_ticket.proofs.pass.Pass.number.Goals as goal

pub returns-clause-setup : goal.returns-clause-setup
returns-clause-setup g c = idle_set_up c.args.self.now.seat.me.0 c.args.self.now.idle
