use Rattle.ra_theorems.proofs.TheoremIndex.{part_kind}
use Rattle.ra_theorems.proofs.theorems.specification.part_kind.Goals as goal

pub returns : goal.returns
returns c = part_kind
