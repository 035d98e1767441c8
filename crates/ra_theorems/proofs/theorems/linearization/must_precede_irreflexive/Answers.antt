use Rattle.ra_theorems.proofs.TheoremIndex.{must_precede_irreflexive}
use Rattle.ra_theorems.proofs.theorems.linearization.must_precede_irreflexive.Goals as goal

pub returns : goal.returns
returns c = must_precede_irreflexive
