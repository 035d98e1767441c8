use Rattle.ra_some_order.proofs.AcceptedKinds.{formed_of_kind, accepted_of_kind}
use Rattle.ra_some_order.proofs.theorems.accepted_labels_of_kind.Goals as goal

pub returns-clause-formed : goal.returns-clause-formed
returns-clause-formed c = formed_of_kind

pub returns-clause-accepted : goal.returns-clause-accepted
returns-clause-accepted c = accepted_of_kind
