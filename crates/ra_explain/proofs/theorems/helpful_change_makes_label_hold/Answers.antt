use Rattle.ra_explain.specs.Changes.{records_with}
use Rattle.ra_explain.proofs.Retold.{ok_holds}
use Rattle.ra_explain.proofs.theorems.helpful_change_makes_label_hold.Goals as goal

pub returns : goal.returns
returns c = λ setup before change next is. ok_holds setup (records_with setup change next.by before) next is
