use Rattle.ra_theorems.proofs.TheoremIndex.{update_iff_part_is_update}
use Rattle.ra_theorems.proofs.theorems.linearization.update_iff_part_is_update.Goals as goal

pub returns : goal.returns
returns c = update_iff_part_is_update
