use Rattle.ra_ticket.specs.Passes.{IsPassOf}
use Rattle.ra_tests_threads.proofs.contention.ask.Given as goal

abbrev pub invariant-loop-call : goal.invariant-loop-call
invariant-loop-call g l = IsPassOf l.desk l.pass
