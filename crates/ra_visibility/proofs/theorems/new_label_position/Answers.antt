use Rattle.ra_visibility.proofs.TheoremIndex.{new_label_position}
use Rattle.ra_visibility.proofs.theorems.new_label_position.Goals as goal

pub returns : goal.returns
returns c = new_label_position
