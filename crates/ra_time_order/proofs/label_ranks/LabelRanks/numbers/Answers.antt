use Rattle.std.proofs.Common.{refl}
use Rattle.ra_labels.specs.NamedOrder.{lowest_rank}
use Rattle.ra_time_order.proofs.SortedRanks.{sorted_further}
use Rattle.ra_time_order.proofs.label_ranks.LabelRanks.numbers.Goals as goal

pub loop-label-preserved : goal.loop-label-preserved
loop-label-preserved c = record {
  all = c.loop-label.invariant.all;
  few = c.loop-label.invariant.few;
  sorted =
      sorted_further c.deref-rank-items.result.now c.loop-label.label lowest_rank _ _ _ c.in_ok-insert.ensures.keys
      c.loop-label.invariant.sorted c.loop-label-test.true refl refl;
}
