use Rattle.ra_witness.proofs.ReplicaStates.{kept-counter, kept-or_set}
use Rattle.ra_witness.proofs.theorems.states_after_delivery.Goals as goal

pub returns : goal.returns
returns c = record { counter = kept-counter; or_set = kept-or_set }
