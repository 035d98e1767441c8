use Rattle.ra_theorems.proofs.TheoremIndex.{causal_iff_deliveries_causal}
use Rattle.ra_theorems.proofs.theorems.visibility.causal_iff_deliveries_causal.Goals as goal

pub returns : goal.returns
returns c = causal_iff_deliveries_causal
