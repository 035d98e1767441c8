use Rattle.ra_theorems.proofs.TheoremIndex.{state_kind}
use Rattle.ra_theorems.proofs.theorems.specification.state_kind.Goals as goal

pub returns : goal.returns
returns c = state_kind
