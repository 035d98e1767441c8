use Rattle.ra_theorems.proofs.TheoremIndex.{new_label_preserves_visibility-others, new_label_preserves_visibility-own}
use Rattle.ra_theorems.proofs.theorems.insertion.new_label_preserves_visibility.Goals as goal

pub returns-clause-others : goal.returns-clause-others
returns-clause-others c = new_label_preserves_visibility-others

pub returns-clause-own : goal.returns-clause-own
returns-clause-own c = new_label_preserves_visibility-own
