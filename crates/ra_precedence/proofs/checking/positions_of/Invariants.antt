use Rattle.std.proofs.Common.{◌≡◌, length}
use Rattle.ra_precedence.proofs.PositionLists.{ArePositionsBelow}
use Rattle.ra_precedence.proofs.checking.positions_of.Given as goal

abbrev pub invariant-loop-index : goal.invariant-loop-index
invariant-loop-index l = record {
  len : length l.positions.items ≡ l.count;
  are : ArePositionsBelow l.order l.positions.items l.index;
}
