use Rattle.ra_theorems.proofs.TheoremIndex.{new_label_in_full_list-insertion, new_label_in_full_list-removal}
use Rattle.ra_theorems.proofs.theorems.arriving.new_label_in_full_list.Goals as goal

pub returns-clause-insertion : goal.returns-clause-insertion
returns-clause-insertion c = new_label_in_full_list-insertion

pub returns-clause-removal : goal.returns-clause-removal
returns-clause-removal c = new_label_in_full_list-removal
