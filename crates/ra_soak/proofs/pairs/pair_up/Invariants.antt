use Rattle.std.proofs.Common.{All, IfSome}
use Rattle.ra_ticket.specs.Passes.{IsPassOf}
use Rattle.ra_soak.proofs.pairs.pair_up.Given as goal

abbrev pub invariant-loop : goal.invariant-loop
invariant-loop l = record {
  others : All (λ p. IfSome p.pass (IsPassOf l.desk)) l.players.items;
  pairs : All (λ p. IfSome p.one.pass (IsPassOf l.desk) × IfSome p.other.pass (IsPassOf l.desk)) l.pairs.items;
}
