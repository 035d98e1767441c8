use Rattle.std.proofs.Common.{IfSome}
use Rattle.ra_ticket.specs.Passes.{IsPassOf}
use Rattle.ra_soak.proofs.threads.play_beside.Given as goal

abbrev pub invariant-loop : goal.invariant-loop
invariant-loop g l = record {
  one : IfSome l.one.pass (IsPassOf l.desk);
  other : IfSome l.other.pass (IsPassOf l.desk);
}
