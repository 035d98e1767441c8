use Rattle.ra_theorems.proofs.TheoremIndex.{register_last_write_wins-last, register_last_write_wins-late}
use Rattle.ra_theorems.proofs.theorems.overriding.register_last_write_wins.Goals as goal

pub returns-clause-last : goal.returns-clause-last
returns-clause-last c = register_last_write_wins-last

pub returns-clause-late : goal.returns-clause-late
returns-clause-late c = register_last_write_wins-late
