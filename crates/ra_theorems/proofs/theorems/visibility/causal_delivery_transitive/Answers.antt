use Rattle.ra_theorems.proofs.TheoremIndex.{causal_delivery_transitive-delivered, causal_delivery_transitive-sees}
use Rattle.ra_theorems.proofs.theorems.visibility.causal_delivery_transitive.Goals as goal

pub returns-clause-delivered : goal.returns-clause-delivered
returns-clause-delivered c = causal_delivery_transitive-delivered

pub returns-clause-sees : goal.returns-clause-sees
returns-clause-sees c = causal_delivery_transitive-sees
