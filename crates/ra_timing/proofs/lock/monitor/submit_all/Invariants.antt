use Rattle.ra_ticket.specs.Passes.{IsPassOf}
use Rattle.ra_timing.proofs.lock.monitor.submit_all.Given as goal

abbrev pub invariant-loop : goal.invariant-loop
invariant-loop g l = IsPassOf l.lock l.pass
