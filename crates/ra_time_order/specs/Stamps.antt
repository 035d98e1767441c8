-- The stamps that are kept for each replica.
use Rattle.std.specs.Prelude.{◌≡◌, ℕ, suc, zero, ◌<◌, ◌≤◌, ◌⊎◌, Bool, true, false, List, [], length, get_or, set, Option, Some, Contains}
use Rattle.ra_labels.specs.declared.label.Stamp.{Stamp}
use Rattle.ra_labels.specs.declared.label.Label.{Label}
use Rattle.ra_labels.specs.declared.limits.TheConstants.{MOST_REPLICAS}
use Rattle.ra_labels.specs.NamedOrder.{lowest_rank, greater_of}
use Rattle.ra_labels.specs.Places.{updates_issued, issue_position}
use Rattle.ra_labels.specs.Records.{Records, labels_of, replica_count}
use Rattle.ra_labels.specs.Visibility.{is_update}
use Rattle.ra_time_order.specs.RunningMaximum.{greatest_among, with_stamp}

-- holds if s is at most t
pub record AtMost (s t : Stamp) : Type 0 where
  pub is : (s.clock < t.clock) ⊎ ((s.clock ≡ t.clock) × (s.replica ≤ t.replica))

abbrev pub stamps_at : List (List Stamp) → ℕ → List Stamp
stamps_at stamps replica = get_or stamps replica []

-- holds if the label is one of the first `count` updates of the replica
abbrev pub IsAmong : Records → ℕ → ℕ → Label → Type 0
IsAmong records replica count label =
    Contains (labels_of records) label × (is_update label.op ≡ true) × (label.replica ≡ replica)
    × (issue_position records label.number < count)

-- holds if these are, for each replica and each number of its first updates, the greatest own stamps among them
pub record AreGreatestOf (stamps : List (List Stamp)) (initial_replicas : ℕ) (records : Records) : Type 0 where
  -- there is a list for each replica, and for those that join later
  pub replicas : replica_count initial_replicas records ≤ length stamps
  pub places : MOST_REPLICAS ≤ length stamps
  pub known : (label : Label) → Contains (labels_of records) label → label.replica < length stamps
  pub updates : (q : ℕ) → q < length stamps → length (stamps_at stamps q) ≡ updates_issued records q
  pub above : (q count : ℕ) (label : Label) (stamp : Stamp) → q < length stamps → IsAmong records q count label
      → label.stamp ≡ Some stamp → AtMost stamp (greatest_among (stamps_at stamps q) count)
  pub own : (q count : ℕ) → q < length stamps → (greatest_among (stamps_at stamps q) count ≡ lowest_rank)
      ⊎ ((label : Label) × IsAmong records q count label
      × (label.stamp ≡ Some (greatest_among (stamps_at stamps q) count)))

-- the stamps with one more label of the replica, an update or not
abbrev pub stamps_with : List (List Stamp) → ℕ → Bool → Option Stamp → List (List Stamp)
stamps_with stamps replica true own = set stamps replica (with_stamp (stamps_at stamps replica) own)
stamps_with stamps replica false own = stamps

-- the greatest stamp among the first updates of the given number of replicas, where `count` is the number of each
abbrev pub greatest_in : List (List Stamp) → (ℕ → ℕ) → ℕ → Stamp
greatest_in stamps count zero = lowest_rank
greatest_in stamps count (suc q) =
    greater_of (greatest_in stamps count q) (greatest_among (stamps_at stamps q) (count q))
