use Rattle.ra_ticket.specs.Passes.{IsPassOf}
use Rattle.ra_tests_threads.proofs.desk.write_in_turn.Given as goal

abbrev pub invariant-loop-turn : goal.invariant-loop-turn
invariant-loop-turn g l = record {
  pass : IsPassOf l.desk l.pass;
  other : IsPassOf l.desk l.other;
}
