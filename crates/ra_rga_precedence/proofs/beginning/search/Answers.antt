use Rattle.std.proofs.Common.{◌∙◌, ℕ, ◌+◌, Option, Some, sym, subst, ap, arith}
use Rattle.std.specs.Prelude.{take}
use Rattle.ra_precedence.specs.Solved.{IsSolution}
use Rattle.ra_rga_precedence.specs.declared.beginning.Beginning.{Beginning}
use Rattle.ra_rga_precedence.proofs.SearchBounds.{AreBounds, first_named, named_first, kept_more, refused_more}
use Rattle.ra_rga_precedence.proofs.beginning.search.Goals.{in-Order, in-Stuck+in_ok-likely-in-Stuck}
use Rattle.ra_rga_precedence.proofs.beginning.search.Goals as goal

pub order_of-requires : goal.order_of-requires
order_of-requires c =
    named_first c.args.count c.args.conditions.now (c.args.base + c.next_number-next.result) c.requires.named

pub without_pairs-requires : goal.without_pairs-requires
without_pairs-requires c = first_named c.args.count c.args.conditions.now c.args.base c.requires.named

pub loop-kept-preserved : goal.loop-kept-preserved
loop-kept-preserved c =
    let count = c.args.count in
    let conditions = c.args.conditions.now in
    let base = c.args.base in
    let next = c.next_number-next.result in
    let above = c.next_number-next.ensures.above in
    let below = c.next_number-next.ensures.below in
    let kept = c.loop-kept.kept in
    let refused = c.loop-kept.refused in
    let found = c.loop-kept.found in
    let old = c.loop-kept.invariant.bounds in
    let asked = take (base + next) conditions in
    let bounds : ℕ → ℕ → Option Beginning → Type 0 = λ k r f. AreBounds count conditions base k r f in
    let now = c.match-branch-2 in
    elim c.match-branch-2.branch [
      | in-Order w ↦
          let it : Beginning = record { pairs = next; order = w.in-Order.order } in
          let order = subst (IsSolution count asked) w.in-Order.is c.in_ok-order.ensures in
          record {
            bounds = subst (bounds now.kept now.refused) (sym w.found-is)
                (subst (λ r. bounds now.kept r (Some it)) (sym w.refused-is)
                (subst (λ k. bounds k refused (Some it)) (sym w.kept-is)
                (kept_more count conditions base kept refused found old it below order)));
          }
      | in-Stuck+in_ok-likely-in-Stuck w ↦
          let (stuck, low) = subst (IsSolution count asked) w.in-Stuck.is c.in_ok-order.ensures in
          record {
            bounds = subst (bounds now.kept now.refused) (sym w.found-is)
                (subst (λ r. bounds now.kept r found) (sym w.refused-is)
                (subst (λ k. bounds k next found) (sym w.kept-is)
                (refused_more count conditions base kept refused found old next above below
                (w.in-Stuck.set.items, stuck, low))));
          }
    ]
