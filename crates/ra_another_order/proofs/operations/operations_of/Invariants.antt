use Rattle.std.proofs.Common.{◌≡◌, length}
use Rattle.ra_another_order.proofs.ListedOperations.{AreFirst}
use Rattle.ra_another_order.proofs.operations.operations_of.Given as goal

abbrev pub invariant-loop-place : goal.invariant-loop-place
invariant-loop-place l = record {
  len : length l.operations.items ≡ l.place-index;
  are : AreFirst l.log l.places l.operations.items l.place-index;
}
