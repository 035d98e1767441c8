use Rattle.ra_theorems.proofs.TheoremIndex.{lww_set_last_update_wins-has}
use Rattle.ra_theorems.proofs.TheoremIndex.{lww_set_last_update_wins-same}
use Rattle.ra_theorems.proofs.TheoremIndex.{lww_set_last_update_wins-late}
use Rattle.ra_theorems.proofs.theorems.overriding.lww_set_last_update_wins.Goals as goal

pub returns-clause-has : goal.returns-clause-has
returns-clause-has c = lww_set_last_update_wins-has

pub returns-clause-same : goal.returns-clause-same
returns-clause-same c = lww_set_last_update_wins-same

pub returns-clause-late : goal.returns-clause-late
returns-clause-late c = lww_set_last_update_wins-late
