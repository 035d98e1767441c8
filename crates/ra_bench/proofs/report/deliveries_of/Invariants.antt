use Rattle.std.proofs.Common.{◌≡◌, take}
use Rattle.ra_bench.specs.Report.{deliveries_in}
use Rattle.ra_bench.proofs.report.deliveries_of.Given as goal

-- the deliveries among the entries so far are counted
abbrev pub invariant-loop-entry : goal.invariant-loop-entry
invariant-loop-entry l = l.deliveries ≡ deliveries_in (take l.entry-index l.log)
