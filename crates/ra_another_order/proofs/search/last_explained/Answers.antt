use Rattle.std.proofs.Common.{ℕ, not, get_or, sym, subst, arith}
use Rattle.ra_another_order.specs.Extent.{records_at, AreBounds, IsExplained}
use Rattle.ra_another_order.proofs.search.last_explained.Goals.{then-is_none, else-is_none}
use Rattle.ra_another_order.proofs.search.last_explained.Goals as goal

pub loop-explained-preserved : goal.loop-explained-preserved
loop-explained-preserved c =
    let old = c.loop-explained.invariant.bounds in
    let ends = c.args.ends.now in
    let next = c.next_end-next.result in
    let above = c.next_end-next.ensures.above in
    let below = c.next_end-next.ensures.below in
    let within = old.within in
    let records : ℕ → _ = λ i. records_at c.args.kind c.args.replicas c.args.log.now (get_or ends i 0) in
    let bounds : ℕ → ℕ → Type 0 = λ explained unexplained. AreBounds c.args.kind c.args.replicas c.args.log.now ends
    (record { explained = explained; unexplained = unexplained }) in
    elim c.if-is_none.branch [
      | then-is_none w ↦
          let some = subst (λ b. IsExplained c.args.kind (records next) (not b)) w.if-is_none.ensures c.in_ok-reason.ensures in
          record {
            bounds = subst (λ i. bounds i c.if-is_none.unexplained) (sym w.explained-is)
                (subst (bounds next) (sym w.unexplained-is)
                (record { below = below; within = within; some = some; none = old.none }));
          }
      | else-is_none w ↦
          let none = subst (λ b. IsExplained c.args.kind (records next) (not b)) w.if-is_none.ensures c.in_ok-reason.ensures in
          record {
            bounds = subst (λ i. bounds i c.if-is_none.unexplained) (sym w.explained-is)
                (subst (bounds c.loop-explained.explained) (sym w.unexplained-is)
                (record { below = above; within = omega (arith, below, within); some = old.some; none = λ there. none }));
          }
    ]
