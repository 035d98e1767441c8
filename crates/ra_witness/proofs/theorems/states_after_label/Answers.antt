use Rattle.ra_witness.proofs.ReplicaStates.{kept-label}
use Rattle.ra_witness.proofs.theorems.states_after_label.Goals as goal

pub returns : goal.returns
returns c = λ updates states past next admits kept there of_kind extended.
    kept-label updates states past kept next admits there of_kind extended
