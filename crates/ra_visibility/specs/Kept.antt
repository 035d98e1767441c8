-- The representation invariant of a tracker.
use Rattle.std.specs.Prelude.{◌≡◌, ◌≢◌, ℕ, ◌+◌, ◌*◌, ◌<◌, ◌≤◌, true, List, Some, length, get_or}
use Rattle.ra_labels.specs.declared.limits.TheConstants.{MOST_REPLICAS}
use Rattle.ra_visibility.specs.declared.stored.Stored.{Stored}
use Rattle.ra_visibility.specs.declared.last_change.LastChange.{LastChange}
use Rattle.ra_visibility.specs.declared.last_change.LastChange.TheVariants.{Nothing, Issue, Delivery, Join}
use Rattle.ra_visibility.specs.declared.limits.TheConstants.{MOST_LABELS}
use Rattle.ra_visibility.specs.Tracked.{Tracked, replicas_in, labels_in, replica_at, row_at, delivered_count, seen_count, counts_at}

-- the number of updates that the replica issued; below, the label of the one at this position
abbrev pub issued_count : Tracked → ℕ → ℕ
issued_count tracked replica = length (replica_at tracked replica).issued

abbrev pub issued_at : Tracked → ℕ → ℕ → ℕ
issued_at tracked replica place = get_or (replica_at tracked replica).issued place 0

-- holds if the label is the replica's update at this position
pub record IsUpdateOf (tracked : Tracked) (by at n : ℕ) : Type 0 where
  pub there : n < labels_in tracked
  pub replica : (row_at tracked n).replica ≡ by
  pub update : (row_at tracked n).is_update ≡ true
  pub place : (row_at tracked n).place ≡ at

-- holds if the list has each update of the replica at its position, and nothing else
pub record AreIssued (tracked : Tracked) (by : ℕ) (issued : List ℕ) : Type 0 where
  pub len : length issued ≡ issued_count tracked by
  pub each : (at : ℕ) → at < length issued → IsUpdateOf tracked by at (get_or issued at 0)
  pub all : (at n : ℕ) → IsUpdateOf tracked by at n → (at < length issued) × (get_or issued at 0 ≡ n)

pub record TrackedKept (tracked : Tracked) : Type 0 where
  -- the bounds within which each number fits its type
  pub few_replicas : replicas_in tracked < 256
  pub few_labels : labels_in tracked ≤ MOST_LABELS
  pub few_counts : length tracked.stored ≤ 255 * labels_in tracked
  pub few_issued : (q : ℕ) → issued_count tracked q ≤ labels_in tracked
  -- a label's replica exists, and its stored counts lie within `stored`
  pub row_replica : (n : ℕ) → n < labels_in tracked → (row_at tracked n).replica < replicas_in tracked
  pub row_counts : (n : ℕ) → n < labels_in tracked
      → (row_at tracked n).counts + (row_at tracked n).width ≤ length tracked.stored
  -- a label's counts include that of its own replica, and each is that of an existing replica
  pub row_width : (n : ℕ) → n < labels_in tracked
      → ((row_at tracked n).replica < (row_at tracked n).width) × ((row_at tracked n).width ≤ replicas_in tracked)
  -- no label sees more updates of a replica than the replica issued
  pub row_seen : (n of : ℕ) → n < labels_in tracked → of < replicas_in tracked
      → seen_count tracked n of ≤ issued_count tracked of
  -- the list of a replica's updates has each one at its position and nothing else, and increases strictly
  pub row_issued : (n : ℕ) → n < labels_in tracked → (row_at tracked n).is_update ≡ true
      → ((row_at tracked n).place < issued_count tracked (row_at tracked n).replica)
      × (issued_at tracked (row_at tracked n).replica (row_at tracked n).place ≡ n)
  pub issued_row : (q p : ℕ) → q < replicas_in tracked → p < issued_count tracked q
      → IsUpdateOf tracked q p (issued_at tracked q p)
  pub issued_rise : (q p r : ℕ) → q < replicas_in tracked → p < r → r < issued_count tracked q
      → issued_at tracked q p < issued_at tracked q r
  -- A replica has a count for each replica, and room for those that may join. No count exceeds the number of updates
  -- issued there, a replica's count of its own updates is that number, and counts of missing replicas are 0.
  pub had_length : (q : ℕ) → q < replicas_in tracked
      → replicas_in tracked ≤ length (replica_at tracked q).counts
  pub had_places : (q : ℕ) → q < replicas_in tracked → MOST_REPLICAS ≤ length (replica_at tracked q).counts
  pub had_beyond : (q of : ℕ) → q < replicas_in tracked → replicas_in tracked ≤ of → delivered_count tracked q of ≡ 0
  pub had_issued : (q of : ℕ) → q < replicas_in tracked → of < replicas_in tracked
      → delivered_count tracked q of ≤ issued_count tracked of
  pub had_own : (q : ℕ) → q < replicas_in tracked → delivered_count tracked q q ≡ issued_count tracked q
  -- what was delivered is causally closed: all that a delivered update sees was delivered to the replica as well
  pub closed : (q n of : ℕ) → q < replicas_in tracked → n < labels_in tracked → of < replicas_in tracked
      → (row_at tracked n).is_update ≡ true
      → (row_at tracked n).place < delivered_count tracked q (row_at tracked n).replica
      → seen_count tracked n of ≤ delivered_count tracked q of
  -- counts that are stored for a replica are its current counts, except for its own
  pub stored_there : (q : ℕ) (stored : Stored) → q < replicas_in tracked → (replica_at tracked q).stored ≡ Some stored
      → stored.at + stored.width ≤ length tracked.stored
  pub stored_width : (q : ℕ) (stored : Stored) → q < replicas_in tracked → (replica_at tracked q).stored ≡ Some stored
      → (q < stored.width) × (stored.width ≤ replicas_in tracked)
  pub stored_same : (q : ℕ) (stored : Stored) (of : ℕ) → q < replicas_in tracked
      → (replica_at tracked q).stored ≡ Some stored → of < replicas_in tracked → of ≢ q
      → get_or (counts_at tracked stored.at stored.width) of 0 ≡ delivered_count tracked q of

-- the precondition for undoing the last change
abbrev pub CanBeUndone : Tracked → LastChange → Type 0
CanBeUndone tracked Nothing = Unit {0}
CanBeUndone tracked (Issue was_stored) = 0 < labels_in tracked
CanBeUndone tracked (Delivery to from at) =
    (to < replicas_in tracked) × (from < replicas_in tracked) × (0 < delivered_count tracked to from)
CanBeUndone tracked Join = 0 < replicas_in tracked
