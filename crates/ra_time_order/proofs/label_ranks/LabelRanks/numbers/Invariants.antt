use Rattle.std.proofs.Common.{◌≡◌, ◌<◌, length, take}
use Rattle.ra_time_order.specs.LabelRanks.{sorted_ranks}
use Rattle.ra_time_order.proofs.label_ranks.LabelRanks.numbers.Given as goal

abbrev pub invariant-loop-label : goal.invariant-loop-label
invariant-loop-label l = record {
  all : sorted_ranks l.rank-items ≡ l.self.entries;
  few : length l.rank-items < 4294967296;
  sorted : l.sorted.keys ≡ sorted_ranks (take l.label l.rank-items);
}
