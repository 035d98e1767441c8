use Rattle.std.proofs.Common.{sym, ap, ◌∙◌}
use Rattle.std.specs.Prelude.{not}
use Rattle.std.specs.BTreeSet.{contains}
use Rattle.std.specs.Ordering.{nat_cmp}
use Rattle.ra_any_order.proofs.ElementSets.{passing_more, passing_same}
use Rattle.ra_any_order.proofs.elements.push_others.Goals.{then-not-contains+in_ok-push, else-not-contains}
use Rattle.ra_any_order.proofs.elements.push_others.Goals as goal

pub loop-element-preserved : goal.loop-element-preserved
loop-element-preserved c =
    elim c.if-not-contains.branch [
      | then-not-contains+in_ok-push w ↦ passing_more (λ x. not (contains nat_cmp c.args.set.now x)) c.args.elements.now
          c.loop-element.element-index c.loop-element-test.true c.args.found.now.items c.loop-element.found.items
          c.if-not-contains.found.items c.loop-element.invariant (ap not (sym c.contains.ensures ∙ w.if-not-contains.true))
          (ap (λ v. v.items) w.found-is ∙ w.in_ok-push.ensures.items)
      | else-not-contains w ↦ passing_same (λ x. not (contains nat_cmp c.args.set.now x)) c.args.elements.now
          c.loop-element.element-index c.loop-element-test.true c.args.found.now.items c.loop-element.found.items
          c.if-not-contains.found.items c.loop-element.invariant (ap not (sym c.contains.ensures ∙ w.if-not-contains.false))
          (ap (λ v. v.items) w.found-is)
    ]
