use Rattle.std.proofs.Common.{◌-◌, length}
use Rattle.ra_list_replica.proofs.finding.first_not_removed.Given as goal

abbrev pub decreases-loop-index : goal.decreases-loop-index
decreases-loop-index l = length l.numbers - l.index
