use Rattle.ra_precedence.proofs.HeldLabels.{reasons_show_stuck}
use Rattle.ra_precedence.proofs.theorems.reasons_show_stuck.Goals as goal

pub returns : goal.returns
returns c = reasons_show_stuck
