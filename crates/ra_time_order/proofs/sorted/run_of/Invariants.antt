use Rattle.std.proofs.Common.{◌≡◌, ◌<◌, ℕ, true, length, get_or}
use Rattle.std.specs.Ordering.{is_lt}
use Rattle.ra_labels.specs.NamedOrder.{stamp_cmp}
use Rattle.ra_time_order.specs.declared.run.Run.{Run}
use Rattle.ra_time_order.proofs.sorted.run_of.Given as goal

-- each later run starts above the rank
abbrev pub invariant-loop-rank : goal.invariant-loop-rank
invariant-loop-rank l = record {
  there : l.at < length l.runs;
  over : (k : ℕ) (d : Run) → l.at < k → k < length l.runs → is_lt (stamp_cmp l.rank (get_or l.runs k d).first) ≡ true;
}

abbrev pub decreases-loop-rank : goal.decreases-loop-rank
decreases-loop-rank l = l.at
