use Rattle.ra_theorems.proofs.TheoremIndex.{other_kind_query_rejected}
use Rattle.ra_theorems.proofs.theorems.specification.other_kind_query_rejected.Goals as goal

pub returns : goal.returns
returns c = other_kind_query_rejected
