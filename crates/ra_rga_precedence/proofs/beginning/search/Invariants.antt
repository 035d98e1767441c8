use Rattle.std.proofs.Common.{◌-◌}
use Rattle.ra_rga_precedence.proofs.SearchBounds.{AreBounds}
use Rattle.ra_rga_precedence.proofs.beginning.search.Given as goal

abbrev pub invariant-loop-kept : goal.invariant-loop-kept
invariant-loop-kept l = record {
  bounds : AreBounds l.count l.conditions l.base l.kept l.refused l.found;
}

abbrev pub decreases-loop-kept : goal.decreases-loop-kept
decreases-loop-kept l = l.refused - l.kept
