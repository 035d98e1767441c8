use Rattle.std.proofs.Common.{IfSome}
use Rattle.ra_ticket.specs.Passes.{IsPassOf}
use Rattle.ra_soak.proofs.threads.play_alone.Given as goal

abbrev pub invariant-loop : goal.invariant-loop
invariant-loop g l = IfSome l.player.pass (IsPassOf l.desk)
