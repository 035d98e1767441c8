use Rattle.ra_theorems.proofs.TheoremIndex.{other_kind_depends_on_root}
use Rattle.ra_theorems.proofs.theorems.waiting.other_kind_depends_on_root.Goals as goal

pub returns : goal.returns
returns c = other_kind_depends_on_root
