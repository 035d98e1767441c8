use Rattle.std.specs.Prelude.{All}
use Rattle.ra_ticket.specs.Passes.{IsPassOf}
use Rattle.ra_tests_threads.proofs.contention.try_in_turn.Given as goal

abbrev pub invariant-loop-pass : goal.invariant-loop-pass
invariant-loop-pass g l = All (IsPassOf l.desk) l.tried.items
