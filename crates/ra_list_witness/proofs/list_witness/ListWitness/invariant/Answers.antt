use Rattle.std.proofs.Common.{List, ℕ, subst}
use Rattle.ra_labels.specs.Edges.{Extends}
use Rattle.ra_list_witness.specs.ListWitness.{ListWitness}
use Rattle.ra_list_witness.specs.Named.{elements_of, IsOrderOf}
use Rattle.ra_list_witness.proofs.NamedOrders.{order_named, extends_named}
use Rattle.ra_list_witness.proofs.list_witness.ListWitness.invariant.Goals as goal

pub returns : goal.returns
returns c =
    let inside = c.self.inside in
    let order = inside.order.order in
    subst (λ (w : ListWitness). (xs : List ℕ) × IsOrderOf xs w.elements × Extends xs w.edges) c.self.view_is (
      elements_of inside.numbers order,
      order_named inside.numbers c.invariant.ensures order c.invariant-2.ensures.once c.self.invariant.ordered,
      extends_named inside.numbers order inside.order.edges c.self.invariant.between c.invariant-2.ensures.extends,
    )
