use Rattle.ra_witness.proofs.Joins.{states_joined}
use Rattle.ra_witness.proofs.theorems.states_after_join.Goals as goal

pub returns : goal.returns
returns c = λ updates states past from kept joins. states_joined updates states past from kept joins.there joins.beyond
