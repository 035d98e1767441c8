use Rattle.std.proofs.Common.{ℕ, Bool, is_some, sym, ap, ◌∙◌}
use Rattle.std.specs.Prelude.{not}
use Rattle.std.specs.BTreeMap.{get}
use Rattle.std.specs.Ordering.{nat_cmp}
use Rattle.ra_list_order.proofs.Indexes.{kept_more, dropped_more}
use Rattle.ra_list_order.proofs.cut.push_others.Goals as goal
use Rattle.ra_list_order.proofs.cut.push_others.Goals.{then-not-contains_key+in_ok-push, else-not-contains_key}

pub loop-element-preserved : goal.loop-element-preserved
loop-element-preserved c =
    let test : ℕ → Bool = λ x. not (is_some (get nat_cmp c.args.index.now x)) in
    elim c.if-not-contains_key.branch [
      | then-not-contains_key+in_ok-push w ↦
          rw w.all-is (kept_more test c.args.elements.now c.args.all.now.items c.loop-element.all.items
          w.push.new.self.items c.loop-element.element-index c.loop-element-test.true c.loop-element.invariant
          (sym (ap not c.contains_key.ensures) ∙ ap not w.if-not-contains_key.true) w.in_ok-push.ensures.items)
      | else-not-contains_key w ↦
          rw w.all-is (dropped_more test c.args.elements.now c.args.all.now.items c.loop-element.all.items
          c.loop-element.element-index c.loop-element-test.true c.loop-element.invariant
          (sym (ap not c.contains_key.ensures) ∙ ap not w.if-not-contains_key.false))
    ]
