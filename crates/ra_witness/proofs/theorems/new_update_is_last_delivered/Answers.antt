use Rattle.ra_witness.proofs.Newest.{own-last}
use Rattle.ra_witness.proofs.theorems.new_update_is_last_delivered.Goals as goal

pub returns : goal.returns
returns c = own-last
