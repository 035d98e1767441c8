use Rattle.ra_mvregister_model.proofs.Sequences.{any_sequence}
use Rattle.ra_mvregister_model.proofs.theorems.sequence_does_not_matter.Goals as goal

pub returns : goal.returns
returns c = any_sequence
