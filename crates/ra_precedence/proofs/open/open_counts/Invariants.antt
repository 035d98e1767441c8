use Rattle.std.proofs.Common.{◌≡◌, [], length, take}
use Rattle.ra_precedence.specs.Placing.{AreOpenCounts}
use Rattle.ra_precedence.proofs.open.open_counts.Given as goal

abbrev pub invariant-loop-condition : goal.invariant-loop-condition
invariant-loop-condition l = record {
  counted : AreOpenCounts (take l.condition-index l.conditions) [] l.numbers.items;
  len : length l.numbers.items ≡ l.count;
}
