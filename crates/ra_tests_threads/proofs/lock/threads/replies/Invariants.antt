use Rattle.ra_ticket.specs.Passes.{IsPassOf}
use Rattle.ra_tests_threads.proofs.lock.threads.replies.Given as goal

abbrev pub invariant-loop : goal.invariant-loop
invariant-loop g l = IsPassOf l.lock l.pass
