use Rattle.ra_theorems.proofs.TheoremIndex.{updates_admitted_iff_state}
use Rattle.ra_theorems.proofs.theorems.linearization.updates_admitted_iff_state.Goals as goal

pub returns : goal.returns
returns c = updates_admitted_iff_state
