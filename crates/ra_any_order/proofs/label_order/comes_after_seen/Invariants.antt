use Rattle.std.specs.Prelude.{◌≡◌, ◌<◌, ℕ, List, true}
use Rattle.ra_labels.specs.HistorySoFar.{History}
use Rattle.ra_labels.specs.Places.{issuer_of}
use Rattle.ra_labels.specs.Visibility.{sees}
use Rattle.ra_precedence.specs.Positions.{ArePositions}
use Rattle.ra_visibility.specs.Tracked.{IsVisibilityOf}
use Rattle.ra_any_order.specs.Requirements.{IsFollowedBy}
use Rattle.ra_any_order.proofs.label_order.comes_after_seen.Given as goal

abbrev pub invariant-loop-replica : goal.invariant-loop-replica
invariant-loop-replica l = (past : History) (order : List ℕ) → IsVisibilityOf l.tracker.now past
    → ArePositions order l.positions
    → (k : ℕ) → sees past.records l.label k ≡ true → issuer_of past.records k < l.replica
    → IsFollowedBy past.records order k l.label
