use Rattle.ra_theorems.proofs.TheoremIndex.{one_state_meets_conditions}
use Rattle.ra_theorems.proofs.theorems.one_state.one_state_meets_conditions.Goals as goal

pub returns : goal.returns
returns c = one_state_meets_conditions
