use Rattle.std.proofs.Common.{Some, None, sym, ap, subst}
use Rattle.std.specs.Prelude.{Contains}
use Rattle.ra_list_order.specs.Chunks.{joined}
use Rattle.ra_list_order.specs.ListOrder.{ListOrder}
use Rattle.ra_list_order.proofs.Puts.{kept_by_result}
use Rattle.ra_list_order.proofs.list_order.ListOrder.put.Goals as goal

pub invariant_of-self : goal.invariant_of-self
invariant_of-self c =
    let same = ap (λ (l : ListOrder). l.order) c.self.view_is in
    kept_by_result c.insert_behind.result (joined c.self.inside.order) (Some c.in-Some.left) None c.args.element
    c.self.inside.edges (joined c.insert_behind.new.self) c.insert_behind.ensures.put c.insert_behind.ensures.failed
    (subst (λ xs. ¬ Contains xs c.args.element) (sym same) c.requires.new) c.self.invariant

pub invariant_of-self-in-Some-right : goal.invariant_of-self-in-Some-right
invariant_of-self-in-Some-right c =
    let same = ap (λ (l : ListOrder). l.order) c.self.view_is in
    kept_by_result c.insert_before.result (joined c.self.inside.order) None (Some c.in-Some-right.right) c.args.element
    c.self.inside.edges (joined c.insert_before.new.self) c.insert_before.ensures.put c.insert_before.ensures.failed
    (subst (λ xs. ¬ Contains xs c.args.element) (sym same) c.requires.new) c.self.invariant

pub invariant_of-self-in-None-right : goal.invariant_of-self-in-None-right
invariant_of-self-in-None-right c =
    let same = ap (λ (l : ListOrder). l.order) c.self.view_is in
    kept_by_result c.insert_first.result (joined c.self.inside.order) None None c.args.element
    c.self.inside.edges (joined c.insert_first.new.self) c.insert_first.ensures.put c.insert_first.ensures.failed
    (subst (λ xs. ¬ Contains xs c.args.element) (sym same) c.requires.new) c.self.invariant
