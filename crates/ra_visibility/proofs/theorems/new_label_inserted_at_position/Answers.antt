use Rattle.ra_visibility.proofs.TheoremIndex.{new_label_inserted_at_position-among, new_label_inserted_at_position-inserted}
use Rattle.ra_visibility.proofs.theorems.new_label_inserted_at_position.Goals as goal

pub returns-clause-among : goal.returns-clause-among
returns-clause-among c = new_label_inserted_at_position-among

pub returns-clause-inserted : goal.returns-clause-inserted
returns-clause-inserted c = new_label_inserted_at_position-inserted
