use Rattle.std.proofs.Common.{◌+◌, Some, cond, sym, ap, subst, ◌∙◌, arith}
use Rattle.std.specs.Ordering.{nat_cmp}
use Rattle.std.specs.BTreeMap.{get}
use Rattle.ra_labels.proofs.Comparisons.{is_at-eqb}
use Rattle.ra_rga_precedence.specs.Situation.{operations_in}
use Rattle.ra_rga_precedence.specs.Inserting.{AreInserters}
use Rattle.ra_rga_precedence.proofs.InsertingLabels.{one_more, no_more}
use Rattle.ra_rga_precedence.proofs.inserters.inserters_of.Goals.{in-Some+else-element-eq0+in_ok-first+in_default-2, in_default}
use Rattle.ra_rga_precedence.proofs.inserters.inserters_of.Goals as goal

pub loop-label-preserved : goal.loop-label-preserved
loop-label-preserved c =
    let n = c.loop-label.label in
    let operations = operations_in c.args.operations.now in
    let old = get nat_cmp c.loop-label.inserters in
    let test = c.loop-label-test.true in
    record {
      are = elim c.match-element_inserted.branch [
        | in-Some+else-element-eq0+in_ok-first+in_default-2 w ↦
            let x = w.in-Some.element in
            subst (λ m. AreInserters operations (n + 1) (get nat_cmp m)) (sym w.inserters-is)
            (one_more operations n x old (get nat_cmp w.insert.new.self) c.loop-label.invariant.are
            (sym c.element_inserted.ensures ∙ w.in-Some.is) w.if-element-eq0.false
            (sym w.in_ok-first.ensures.old ∙ w.in_default-2.is)
            (λ q. w.in_ok-first.ensures.updates.0 q ∙ ap (λ b. cond b (Some n) (old q)) (is_at-eqb x q)))
        | in_default w ↦
            subst (λ m. AreInserters operations (n + 1) (get nat_cmp m)) (sym w.inserters-is)
            (no_more operations n old c.loop-label.invariant.are (sym c.element_inserted.ensures ∙ w.in_default.is))
      ];
      within = omega (arith, test);
    }
