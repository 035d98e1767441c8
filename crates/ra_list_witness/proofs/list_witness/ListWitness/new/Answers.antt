use Rattle.std.proofs.Common.{sym, subst}
use Rattle.ra_list_witness.specs.ListWitness.{ListWitnessKept}
use Rattle.ra_list_witness.proofs.Views.{kept_first}
use Rattle.ra_list_witness.proofs.list_witness.ListWitness.new.Goals as goal

pub invariant_of-result : goal.invariant_of-result
invariant_of-result c =
    subst (λ vs. ListWitnessKept c.new-2.result vs c.new-3.result.order c.new-3.result.edges) (sym c.loop.invariant)
    (kept_first c.new-2.result c.loop.counter c.new-3.result.order c.new-3.result.edges c.new-2.ensures c.new-3.ensures.edges)
