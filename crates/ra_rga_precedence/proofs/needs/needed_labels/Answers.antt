use Rattle.std.proofs.Common.{◌+◌, ◌∷◌, [], None, Some, length, length-append, sym, ap, subst, ◌∙◌, arith}
use Rattle.std.specs.Ordering.{nat_cmp}
use Rattle.std.specs.BTreeMap.{get}
use Rattle.ra_rga_precedence.specs.Situation.{operations_in}
use Rattle.ra_rga_precedence.specs.Needing.{AreNeeded, IsNeed}
use Rattle.ra_rga_precedence.proofs.NeededLabels.{one_more_needed}
use Rattle.ra_rga_precedence.proofs.needs.needed_labels.Goals.{in-Nothing+in_ok-push-in-Nothing, in-Inserted+in_ok-push-in-Inserted}
use Rattle.ra_rga_precedence.proofs.needs.needed_labels.Goals as goal

pub loop-label-preserved : goal.loop-label-preserved
loop-label-preserved c =
    let n = c.loop-label.label in
    let labels = c.loop-label.labels.items in
    let operations = operations_in c.args.operations.now in
    let inserter = get nat_cmp c.args.inserters.now in
    let kept = c.loop-label.invariant in
    let test = c.loop-label-test.true in
    elim c.match-need_of.branch [
      | in-Nothing+in_ok-push-in-Nothing w ↦
          let items = ap (λ v. v.items) w.labels-is ∙ w.in_ok-push-in-Nothing.ensures.items in
          record {
            len = ap length items ∙ length-append labels (None ∷ []) ∙ ap (λ k. k + 1) kept.len;
            are = subst (AreNeeded operations inserter) (sym items) (one_more_needed operations inserter labels n None kept.len
                kept.are (subst (IsNeed operations inserter n) w.in-Nothing.is c.need_of.ensures));
            within = omega (arith, test);
          }
      | in-Inserted+in_ok-push-in-Inserted w ↦
          let m = w.in-Inserted.inserter in
          let items = ap (λ v. v.items) w.labels-is ∙ w.in_ok-push-in-Inserted.ensures.items in
          record {
            len = ap length items ∙ length-append labels (Some m ∷ []) ∙ ap (λ k. k + 1) kept.len;
            are = subst (AreNeeded operations inserter) (sym items) (one_more_needed operations inserter labels n (Some m) kept.len
                kept.are (subst (IsNeed operations inserter n) w.in-Inserted.is c.need_of.ensures));
            within = omega (arith, test);
          }
    ]
