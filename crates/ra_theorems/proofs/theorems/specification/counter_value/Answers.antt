use Rattle.ra_theorems.proofs.States.{counter_is}
use Rattle.ra_theorems.proofs.theorems.specification.counter_value.Goals as goal

pub returns : goal.returns
returns c = counter_is
