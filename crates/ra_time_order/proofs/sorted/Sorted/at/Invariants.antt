use Rattle.std.proofs.Common.{◌≡◌, drop}
use Rattle.std.specs.List.{slice_get}
use Rattle.ra_time_order.specs.Sorted.{joined}
use Rattle.ra_time_order.proofs.sorted.Sorted.at.Given as goal

-- the rest of the position, among the labels of the remaining runs
abbrev pub invariant-loop-run : goal.invariant-loop-run
invariant-loop-run l = slice_get (joined (drop l.run-index l.run-items)) l.rest ≡ slice_get l.self.entries l.position
