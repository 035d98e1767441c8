-- A tracker, as contracts describe it: its state now, and its state with the last change undone.
use Rattle.std.specs.Prelude.{Option, IfSome}
use Rattle.ra_visibility.specs.declared.last_change.LastChange.{LastChange}
use Rattle.ra_visibility.specs.Tracked.{Tracked}
use Rattle.ra_visibility.specs.Changes.{undone}
use Rattle.ra_visibility.specs.Kept.{TrackedKept, CanBeUndone}

pub record Tracker : Type 0 where
  pub now : Tracked
  -- none if there is no change to undo
  pub before : Option Tracked

abbrev pub tracker_of : Tracked → LastChange → Tracker
tracker_of tracked last = record { now = tracked; before = undone tracked last }

-- holds if both states satisfy the invariant, and the last change can be undone
pub record TrackerKept (tracked : Tracked) (last : LastChange) : Type 0 where
  pub now : TrackedKept tracked
  pub before : IfSome (undone tracked last) TrackedKept
  pub taken_back : CanBeUndone tracked last
