use Rattle.ra_visibility.proofs.TheoremIndex.{delivery_preserves_causality}
use Rattle.ra_visibility.proofs.theorems.delivery_preserves_causality.Goals as goal

pub returns : goal.returns
returns c = delivery_preserves_causality
