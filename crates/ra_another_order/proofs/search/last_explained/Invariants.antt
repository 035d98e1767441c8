use Rattle.std.proofs.Common.{◌-◌}
use Rattle.ra_another_order.specs.Extent.{AreBounds}
use Rattle.ra_another_order.proofs.search.last_explained.Given as goal

abbrev pub invariant-loop-explained : goal.invariant-loop-explained
invariant-loop-explained l = record {
  bounds : AreBounds l.kind l.replicas l.log l.ends (record { explained = l.explained; unexplained = l.unexplained });
}

abbrev pub decreases-loop-explained : goal.decreases-loop-explained
decreases-loop-explained l = l.unexplained - l.explained
