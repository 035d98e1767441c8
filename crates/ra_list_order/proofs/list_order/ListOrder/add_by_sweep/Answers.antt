use Rattle.std.proofs.Common.{◌≡◌, ◌++◌, ◌∙◌, List, [], ℕ, take, drop, refl, sym, ap, subst}
use Rattle.std.specs.List.Sorted.{IsPermutation}
use Rattle.std.specs.List.{between}
use Rattle.ra_list_order.specs.Chunks.{joined}
use Rattle.ra_list_order.specs.ListOrder.{ListOrder, ListOrderKept}
use Rattle.ra_list_order.proofs.Adds.{parts_fit, same_elements, swept_elements, swept_kept, add_cycles}
use Rattle.ra_list_order.proofs.list_order.ListOrder.add_by_sweep.Goals as goal

pub returns-then-is_marked-clause-answer : goal.returns-then-is_marked-clause-answer
returns-then-is_marked-clause-answer c =
    let edge = c.args.edge in (
      refl,
      add_cycles _ _ _ _ edge _ _ _ _ _ _ (ap (λ (l : ListOrder). l.edges) c.self.view_is) refl
          c.in_ok-swept.ensures c.deref-then-is_marked.ensures.value c.in_ok-cycle.ensures.chain
          c.in_ok-cycle.ensures.walked c.in_ok-insert.ensures.items,
    )

pub write_back-requires : goal.write_back-requires
write_back-requires c =
    let edge = c.args.edge in
    parts_fit c.self.inside.order c.in-Some.span.first c.in-Some.span.end c.in_ok-elements.elements.items
    c.deref.result.now c.deref-2.result.now c.part_with-start.result.0 c.part_with-start.result.1 c.self.inside.edges
    edge
    c.in_ok-swept.swept.stays.items c.in_ok-swept.swept.moves.items c.deref-4.result.now
    c.extend_from_slice.new.self.items
    c.deref-5.result.now [] c.in_ok-swept.swept.walked.items c.in-Some.ensures
    c.in_ok-elements.ensures c.deref.ensures.value c.part_with-start.ensures c.deref-2.ensures.value
    c.in_ok-swept.ensures c.deref-4.ensures.value c.in_ok-extend_from_slice.ensures.items c.deref-5.ensures.value
    c.in_ok-elements.elements.len (sym c.in_ok-elements.elements.ok.0)

pub overwrite-requires-clause-same : goal.overwrite-requires-clause-same
overwrite-requires-clause-same c =
    let edge = c.args.edge in
    subst (λ xs. IsPermutation (joined (between c.in-Some.span.first c.in-Some.span.end c.self.inside.order)) xs)
    (sym c.deref-6.ensures.value)
    (same_elements c.self.inside.order c.in-Some.span.first c.in-Some.span.end c.in_ok-elements.elements.items
    c.deref.result.now c.deref-2.result.now c.part_with-start.result.0 c.part_with-start.result.1 c.self.inside.edges
    edge
    c.in_ok-swept.swept.stays.items c.in_ok-swept.swept.moves.items c.deref-4.result.now
    c.extend_from_slice.new.self.items
    c.deref-5.result.now c.write_back.new.elements.items c.in_ok-swept.swept.walked.items c.in-Some.ensures
    c.in_ok-elements.ensures c.deref.ensures.value c.part_with-start.ensures c.deref-2.ensures.value
    c.in_ok-swept.ensures c.deref-4.ensures.value c.in_ok-extend_from_slice.ensures.items c.deref-5.ensures.value
    c.write_back.ensures)

overwritten : (c : goal.After-drop-elements-2) → joined c.overwrite.new.self
    ≡ joined (take c.in-Some.span.first c.self.inside.order)
    ++ (c.write_back.new.elements.items ++ joined (drop c.in-Some.span.end c.self.inside.order))
overwritten c =
    c.overwrite.ensures
    ∙ ap (λ (xs : List ℕ). joined (take c.in-Some.span.first c.self.inside.order)
    ++ (xs ++ joined (drop c.in-Some.span.end c.self.inside.order))) c.deref-6.ensures.value

moved : (c : goal.After-drop-elements-2) → IsPermutation (joined c.self.inside.order) (joined c.overwrite.new.self)
moved c =
    let edge = c.args.edge in
    swept_elements c.self.inside.order c.in-Some.span.first c.in-Some.span.end c.in_ok-elements.elements.items
    c.deref.result.now c.deref-2.result.now c.part_with-start.result.0 c.part_with-start.result.1 c.self.inside.edges
    edge
    c.in_ok-swept.swept.stays.items c.in_ok-swept.swept.moves.items c.deref-4.result.now
    c.extend_from_slice.new.self.items
    c.deref-5.result.now c.write_back.new.elements.items c.in_ok-swept.swept.walked.items c.in-Some.ensures
    c.in_ok-elements.ensures c.deref.ensures.value c.part_with-start.ensures c.deref-2.ensures.value
    c.in_ok-swept.ensures c.deref-4.ensures.value c.in_ok-extend_from_slice.ensures.items c.deref-5.ensures.value
    c.write_back.ensures (joined c.overwrite.new.self) (overwritten c)

kept : (c : goal.After-drop-elements-2) → ListOrderKept (joined c.overwrite.new.self) c.push-2.new.self
kept c =
    let edge = c.args.edge in
    swept_kept c.self.inside.order c.in-Some.span.first c.in-Some.span.end c.in_ok-elements.elements.items
    c.deref.result.now c.deref-2.result.now c.part_with-start.result.0 c.part_with-start.result.1 c.self.inside.edges
    edge
    c.in_ok-swept.swept.stays.items c.in_ok-swept.swept.moves.items c.deref-4.result.now
    c.extend_from_slice.new.self.items
    c.deref-5.result.now c.write_back.new.elements.items c.in_ok-swept.swept.walked.items c.in-Some.ensures
    c.in_ok-elements.ensures c.deref.ensures.value c.part_with-start.ensures c.deref-2.ensures.value
    c.in_ok-swept.ensures c.deref-4.ensures.value c.in_ok-extend_from_slice.ensures.items c.deref-5.ensures.value
    c.write_back.ensures (joined c.overwrite.new.self) (overwritten c)
    c.deref-3.result.now c.push-2.new.self c.is_marked.result c.deref-3.ensures.value c.is_marked.ensures
    c.if-is_marked.false c.in_ok-push-2.ensures.pushed c.self.invariant

pub invariant_of-self-2 : goal.invariant_of-self-2
invariant_of-self-2 c = kept c

pub returns-clause-elements : goal.returns-clause-elements
returns-clause-elements c =
    subst (λ xs. IsPermutation xs (joined c.overwrite.new.self)) (ap (λ (l : ListOrder). l.order) c.self.view_is)
    (moved c)

pub returns-clause-extends : goal.returns-clause-extends
returns-clause-extends c = (kept c).extends
