use Rattle.ra_some_order.proofs.Linearizations.{plain_final, stuck_final, following_final}
use Rattle.ra_some_order.proofs.theorems.stuck_set_is_final.Goals as goal

pub returns-clause-plain : goal.returns-clause-plain
returns-clause-plain c = plain_final

pub returns-clause-stuck : goal.returns-clause-stuck
returns-clause-stuck c = stuck_final

pub returns-clause-following : goal.returns-clause-following
returns-clause-following c = following_final
