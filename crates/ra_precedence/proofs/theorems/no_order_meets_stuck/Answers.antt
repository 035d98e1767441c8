use Rattle.ra_precedence.proofs.StuckSets.{no_order_meets_stuck}
use Rattle.ra_precedence.proofs.theorems.no_order_meets_stuck.Goals as goal

pub returns : goal.returns
returns c = no_order_meets_stuck
