use Rattle.ra_witness.proofs.NamedParts.{refs-named}
use Rattle.ra_witness.proofs.theorems.parts_are_named_sequence.Goals as goal

pub returns : goal.returns
returns c = refs-named
