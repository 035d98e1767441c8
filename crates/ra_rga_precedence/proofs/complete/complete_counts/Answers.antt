use Rattle.std.proofs.Common.{◌≡◌, ◌+◌, refl, sym, ap, subst, ◌∙◌, inl, inr, arith}
use Rattle.std.specs.Ordering.{nat_cmp}
use Rattle.std.specs.BTreeMap.{get}
use Rattle.ra_rga_precedence.specs.Situation.{operations_in}
use Rattle.ra_rga_precedence.specs.Needing.{IsNeed}
use Rattle.ra_rga_precedence.specs.Complete.{AreCompleteCounts}
use Rattle.ra_rga_precedence.proofs.CompleteCounts.{IsLast, last_without, last_with, complete_if, incomplete_if, counts_with, counts_without, counts_end}
use Rattle.ra_rga_precedence.proofs.complete.complete_counts.Goals.{in-Nothing, in-Inserted+then-last-inserter, in-Inserted+else-last-inserter, then-last-label+in_ok-push-2, else-last-label}
use Rattle.ra_rga_precedence.proofs.complete.complete_counts.Goals as goal

pub returns-in-Absent : goal.returns-in-Absent
returns-in-Absent c =
    let operations = operations_in c.args.operations.now in
    let inserter = get nat_cmp c.in_ok-inserters.inserters in
    let n = c.loop-label.label in
    counts_end operations n c.loop-label.counts.items c.loop-label.invariant.counts c.args.count c.loop-label-test.true
    inserter c.in_ok-inserters.ensures (subst (IsNeed operations inserter n) c.in-Absent.is c.need_of.ensures)

pub loop-label-preserved : goal.loop-label-preserved
loop-label-preserved c =
    let operations = operations_in c.args.operations.now in
    let inserter = get nat_cmp c.in_ok-inserters.inserters in
    let firsts = c.in_ok-inserters.ensures in
    let n = c.loop-label.label in
    let last = c.loop-label.last in
    let kept = c.loop-label.invariant in
    let test = c.loop-label-test.true in
    let counts = c.loop-label.counts.items in
    let is_last : IsLast operations c.args.count (n + 1) c.match-need_of.last = elim c.match-need_of.branch [
      | in-Nothing w ↦
          subst (IsLast operations c.args.count (n + 1)) (sym w.last-is)
          (last_without operations c.args.count n last kept.last
          (subst (IsNeed operations inserter n) w.in-Nothing.is c.need_of.ensures))
      | in-Inserted+then-last-inserter w ↦
          let k = w.in-Inserted.inserter in
          let less = w.if-last-inserter.true in
          let (x, needs, is) = subst (IsNeed operations inserter n) w.in-Inserted.is c.need_of.ensures in
          subst (IsLast operations c.args.count (n + 1)) (sym w.last-is)
          (last_with operations c.args.count n last kept.last inserter firsts x k needs is k (omega (arith, less))
          (omega arith) (inr refl))
      | in-Inserted+else-last-inserter w ↦
          let k = w.in-Inserted.inserter in
          let more = w.if-last-inserter.false in
          let (x, needs, is) = subst (IsNeed operations inserter n) w.in-Inserted.is c.need_of.ensures in
          subst (IsLast operations c.args.count (n + 1)) (sym w.last-is)
          (last_with operations c.args.count n last kept.last inserter firsts x k needs is last (omega arith)
          (omega (arith, more)) (inl refl))
    ] in
    record {
      counts = elim c.if-last-label.branch [
        | then-last-label+in_ok-push-2 w ↦
            let before = w.if-last-label.true in
            subst (AreCompleteCounts operations (n + 1))
            (sym (ap (λ v. v.items) w.counts-is ∙ w.in_ok-push-2.ensures.items))
            (counts_with operations n counts kept.counts
            (complete_if operations c.args.count (n + 1) c.match-need_of.last is_last (omega (arith, before))))
        | else-last-label w ↦
            let after = w.if-last-label.false in
            subst (AreCompleteCounts operations (n + 1)) (sym (ap (λ v. v.items) w.counts-is))
            (counts_without operations n counts kept.counts
            (incomplete_if operations c.args.count (n + 1) c.match-need_of.last is_last (omega (arith, after)) (omega arith)
            (omega (arith, test))))
      ];
      last = is_last;
      within = omega (arith, test);
    }

pub returns : goal.returns
returns c =
    let test = c.loop-label-test.false in
    let within = c.loop-label.invariant.within in
    let same : c.loop-label.label ≡ c.args.count = omega (arith, test, within) in
    subst (λ k. AreCompleteCounts (operations_in c.args.operations.now) k c.loop-label.counts.items) same
    c.loop-label.invariant.counts
