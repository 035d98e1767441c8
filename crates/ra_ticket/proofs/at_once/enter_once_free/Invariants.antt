use Rattle.std.proofs.Common.{◌≡◌, [], Some}
use Rattle.ra_ticket.specs.Steps.{IsSameSeat}
use Rattle.ra_ticket.specs.Views.{stage_of, seen_of}
use Rattle.ra_ticket.specs.declared.board.Stage.TheVariants.{Idle}
use Rattle.ra_ticket.proofs.at_once.enter_once_free.Given as goal

abbrev pub invariant-loop : goal.invariant-loop
invariant-loop g l = record {
  seat : IsSameSeat l.fn.seat l.seat;
  slot : l.seat.me.1 ≡ [];
  seen : seen_of l.seat.me.0 ≡ seen_of l.fn.seat.me.0;
  idle : stage_of l.seat.me.0 ≡ Some Idle;
}
