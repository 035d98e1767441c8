use Rattle.std.proofs.Common.{◌-◌, ◌+◌, ◌<◌, ◌≡◌, Some, cond, sym, ap, subst, ◌∙◌, arith}
use Rattle.std.specs.Ordering.{nat_cmp}
use Rattle.std.specs.BTreeMap.{get}
use Rattle.ra_labels.proofs.Comparisons.{is_at-eqb}
use Rattle.ra_rga_precedence.specs.Situation.{operations_in}
use Rattle.ra_rga_precedence.specs.Complete.{AreFirstInserters}
use Rattle.ra_rga_precedence.proofs.CompleteCounts.{inserts_before, nothing_before}
use Rattle.ra_rga_precedence.proofs.complete.first_inserters.Goals.{in-Some+in_ok-insert, in_default}
use Rattle.ra_rga_precedence.proofs.complete.first_inserters.Goals as goal

pub loop-behind-preserved : goal.loop-behind-preserved
loop-behind-preserved c =
    let count = c.args.count in
    let behind = c.loop-behind.behind in
    let n = count - 1 - behind in
    let operations = operations_in c.args.operations.now in
    let old = get nat_cmp c.loop-behind.inserters in
    let test = c.loop-behind-test.true in
    let is_next : n + 1 ≡ count - behind = omega (arith, test) in
    let below : n < count = omega (arith, test) in
    let this : n ≡ count - (behind + 1) = omega (arith, test) in
    record {
      are = elim c.match-element_inserted.branch [
        | in-Some+in_ok-insert w ↦
            let x = w.in-Some.element in
            subst (λ m. AreFirstInserters operations (count - (behind + 1)) count (get nat_cmp m)) (sym w.inserters-is)
            (subst (λ k. AreFirstInserters operations k count (get nat_cmp w.insert.new.self)) this
            (inserts_before operations (count - behind) count n is_next below old c.loop-behind.invariant.are x
            (get nat_cmp w.insert.new.self) (sym c.element_inserted.ensures ∙ w.in-Some.is)
            (λ q. w.in_ok-insert.ensures.updates.0 q ∙ ap (λ b. cond b (Some n) (old q)) (is_at-eqb x q))))
        | in_default w ↦
            subst (λ m. AreFirstInserters operations (count - (behind + 1)) count (get nat_cmp m)) (sym w.inserters-is)
            (subst (λ k. AreFirstInserters operations k count old) this
            (nothing_before operations (count - behind) count n is_next below old c.loop-behind.invariant.are
            (sym c.element_inserted.ensures ∙ w.in_default.is)))
      ];
      within = omega (arith, test);
    }
