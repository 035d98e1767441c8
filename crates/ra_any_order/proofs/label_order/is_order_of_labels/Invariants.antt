use Rattle.std.specs.Prelude.{◌<◌, ℕ}
use Rattle.ra_labels.specs.HistorySoFar.{History}
use Rattle.ra_visibility.specs.Tracked.{IsVisibilityOf}
use Rattle.ra_any_order.proofs.TurnOrders.{ComesInTurn}
use Rattle.ra_any_order.proofs.label_order.is_order_of_labels.Given as goal

abbrev pub invariant-loop-label : goal.invariant-loop-label
invariant-loop-label l = (past : History) → IsVisibilityOf l.tracker.now past
    → (n : ℕ) → n < l.label → ComesInTurn past.records l.order n
