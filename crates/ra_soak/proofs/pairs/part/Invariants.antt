use Rattle.std.proofs.Common.{All, IfSome}
use Rattle.ra_ticket.specs.Passes.{IsPassOf}
use Rattle.ra_soak.proofs.pairs.part.Given as goal

abbrev pub invariant-loop : goal.invariant-loop
invariant-loop l = record {
  pairs : All (λ p. IfSome p.one.pass (IsPassOf l.desk) × IfSome p.other.pass (IsPassOf l.desk)) l.pairs.items;
  pass : IfSome l.pass (IsPassOf l.desk);
}
