use Rattle.ra_ticket.specs.Passes.{IsPassOf}
use Rattle.ra_timing.proofs.lock.calls.submit_all.Given as goal

abbrev pub invariant-loop-call : goal.invariant-loop-call
invariant-loop-call g l = IsPassOf l.lock l.pass
