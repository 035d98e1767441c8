use Rattle.ra_ticket.specs.Passes.{IsPassOf}
use Rattle.ra_tests_threads.proofs.contention.meet_each.Given as goal

abbrev pub invariant-loop-other : goal.invariant-loop-other
invariant-loop-other g l = IsPassOf l.desk l.first
