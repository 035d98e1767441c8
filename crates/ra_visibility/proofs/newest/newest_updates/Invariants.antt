use Rattle.std.proofs.Common.{◌<◌, ℕ}
use Rattle.std.specs.Prelude.{Contains}
use Rattle.ra_labels.specs.HistorySoFar.{History}
use Rattle.ra_visibility.specs.Tracked.{labels_in, IsVisibilityOf}
use Rattle.ra_visibility.proofs.NewestLists.{AreNewestBelow}
use Rattle.ra_visibility.proofs.newest.newest_updates.Given as goal

abbrev pub invariant-loop-replica : goal.invariant-loop-replica
invariant-loop-replica l = record {
  below : (m : ℕ) → Contains l.newest.items m → m < labels_in l.tracker.now;
  are : (past : History) → IsVisibilityOf l.tracker.now past
      → AreNewestBelow past.records l.label l.newest.items l.replica;
}
