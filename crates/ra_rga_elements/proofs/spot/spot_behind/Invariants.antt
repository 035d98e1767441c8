use Rattle.std.proofs.Common.{◌-◌, length}
use Rattle.ra_rga_elements.proofs.GreaterStamps.{IsPassing}
use Rattle.ra_rga_elements.proofs.spot.spot_behind.Given as goal

abbrev pub invariant-loop-position : goal.invariant-loop-position
invariant-loop-position l = IsPassing l.chunks l.anchor l.stamp l.place l.position

abbrev pub decreases-loop-position : goal.decreases-loop-position
decreases-loop-position l = length l.chunks - l.place
