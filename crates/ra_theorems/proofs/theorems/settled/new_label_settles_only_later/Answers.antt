use Rattle.ra_theorems.proofs.TheoremIndex.{new_label_settles_only_later-before, new_label_settles_only_later-count}
use Rattle.ra_theorems.proofs.theorems.settled.new_label_settles_only_later.Goals as goal

pub returns-clause-before : goal.returns-clause-before
returns-clause-before c = new_label_settles_only_later-before

pub returns-clause-count : goal.returns-clause-count
returns-clause-count c = new_label_settles_only_later-count
