use Rattle.std.proofs.Common.{◌≡◌, List, ℕ, sym, ap, ◌∙◌, subst}
use Rattle.std.specs.Prelude.{IfOk}
use Rattle.std.proofs.lemmas.Result.{IfOk-weaker}
use Rattle.ra_labels.specs.Edges.{Extends}
use Rattle.ra_list_witness.specs.ListWitness.{ListWitness}
use Rattle.ra_list_witness.specs.Named.{all_named, elements_of, IsOrderOf}
use Rattle.ra_list_witness.proofs.NamedOrders.{order_named, extends_named}
use Rattle.ra_list_witness.proofs.list_witness.ListWitness.list_order.Goals as goal

-- the numbers are those of the kept order
is_named : (c : goal.After-drop-numbers) (order : List ℕ) → order ≡ elements_of c.self.inside.numbers c.deref.result.now
    → order ≡ elements_of c.self.inside.numbers c.self.inside.order.order
is_named c order is = is ∙ ap (elements_of c.self.inside.numbers) (c.deref.ensures.value ∙ c.in_ok-numbers.ensures)

pub returns-clause-whole : goal.returns-clause-whole
returns-clause-whole c =
    let inside = c.self.inside in
    subst (λ (w : ListWitness). IfOk c.elements_of.result (λ order. IsOrderOf order.items w.elements)) c.self.view_is
    (IfOk-weaker c.elements_of.result _ _
    (λ order is. subst (λ xs. IsOrderOf xs inside.numbers) (sym (is_named c order.items is))
    (order_named inside.numbers c.invariant.ensures inside.order.order c.invariant-2.ensures.once c.self.invariant.ordered))
    c.elements_of.ensures)

pub returns-clause-extends : goal.returns-clause-extends
returns-clause-extends c =
    let inside = c.self.inside in
    subst (λ (w : ListWitness). IfOk c.elements_of.result (λ order. Extends order.items w.edges)) c.self.view_is
    (IfOk-weaker c.elements_of.result _ _
    (λ order is. subst (λ xs. Extends xs (all_named inside.numbers inside.order.edges)) (sym (is_named c order.items is))
    (extends_named inside.numbers inside.order.order inside.order.edges c.self.invariant.between
    c.invariant-2.ensures.extends))
    c.elements_of.ensures)
