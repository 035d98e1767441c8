use Rattle.ra_witness.proofs.Range.{first_in_range}
use Rattle.ra_witness.proofs.theorems.delivered_state_in_range.Goals as goal

pub returns : goal.returns
returns c = first_in_range
