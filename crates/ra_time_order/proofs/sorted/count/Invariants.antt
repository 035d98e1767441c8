use Rattle.std.proofs.Common.{◌≡◌, ◌+◌, length, drop}
use Rattle.ra_time_order.specs.Sorted.{joined}
use Rattle.ra_time_order.proofs.sorted.count.Given as goal

-- the labels so far and those of the remaining runs are all labels
abbrev pub invariant-loop-run : goal.invariant-loop-run
invariant-loop-run l = l.labels + length (joined (drop l.run-index l.runs)) ≡ length (joined l.runs)
