use Rattle.std.proofs.Common.{◌≡◌, ◌+◌, ◌<◌, None, get_or, sym, ap, subst, ◌∙◌, arith}
use Rattle.ra_visibility.specs.Tracked.{labels_in}
use Rattle.ra_rga_precedence.specs.Situation.{operations_in}
use Rattle.ra_rga_precedence.specs.UpdateConditions.{HoldNeeds, AreUpdateConditions, NameBelow, update_condition}
use Rattle.ra_rga_precedence.proofs.ConditionLists.{updates_same, with_update, without_update, named_more}
use Rattle.ra_rga_precedence.proofs.KeptUpdates.{needs_more, needs_same}
use Rattle.ra_rga_precedence.proofs.update_conditions.update_conditions.Goals.{then-is_update+in_ok-newest+in_ok-condition+in_ok-push, else-is_update}
use Rattle.ra_rga_precedence.proofs.update_conditions.update_conditions.Goals as goal

pub loop-label-preserved : goal.loop-label-preserved
loop-label-preserved c =
    let n = c.loop-label.label in
    let count = labels_in c.args.tracker.now.now in
    let needed = c.args.needed.now in
    let old = c.loop-label.conditions.items in
    let operations = operations_in c.args.operations.now in
    let kept = c.loop-label.invariant in
    let test = c.loop-label-test.true in
    let end = c.labels-label-end.ensures in
    let there : n < count = omega (arith, test, end) in
    elim c.if-is_update.branch [
      | then-is_update+in_ok-newest+in_ok-condition+in_ok-push w ↦
          let condition = w.in_ok-condition.condition in
          let newest = w.in_ok-newest.newest.items in
          let items = ap (λ v. v.items) w.conditions-is ∙ w.in_ok-push.ensures.items in
          let is : condition ≡ update_condition newest (get_or needed n None) n = w.in_ok-condition.ensures in
          record {
            named = subst (NameBelow count) (sym items) (named_more count newest w.in_ok-newest.ensures.below
                (get_or needed n None) n (c.requires.below n) there old kept.named condition is);
            needs = subst (HoldNeeds operations needed (n + 1)) (sym items)
                (needs_more operations needed n old kept.needs newest condition is);
            are = λ past stands. subst (AreUpdateConditions past.records needed (n + 1)) (sym items)
                (with_update past.records needed n old (kept.are past stands)
                (sym (updates_same past.records operations stands.listed n) ∙ sym c.is_update.ensures ∙ w.if-is_update.true)
                newest (w.in_ok-newest.ensures.newest past stands.visibility) condition is);
            within = omega (arith, there);
          }
      | else-is_update w ↦
          let items = ap (λ v. v.items) w.conditions-is in
          record {
            named = subst (NameBelow count) (sym items) kept.named;
            needs = subst (HoldNeeds operations needed (n + 1)) (sym items)
                (needs_same operations needed n old kept.needs (sym c.is_update.ensures ∙ w.if-is_update.false));
            are = λ past stands. subst (AreUpdateConditions past.records needed (n + 1)) (sym items)
                (without_update past.records needed n old (kept.are past stands)
                (sym (updates_same past.records operations stands.listed n) ∙ sym c.is_update.ensures ∙ w.if-is_update.false));
            within = omega (arith, there);
          }
    ]
