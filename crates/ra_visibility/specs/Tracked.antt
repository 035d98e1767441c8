-- The state of a tracker, as contracts describe it: what was delivered to each replica, and what each label sees.
use Rattle.std.specs.Prelude.{◌≡◌, ℕ, ◌<◌, nat_lt, Bool, not, ◌&&◌, List, [], ◌∷◌, length, Option, get_or, take, drop, set, option_map}
use Rattle.std.specs.List.{find, range_with_len}
use Rattle.ra_labels.specs.declared.refusal.Refusal.{Refusal}
use Rattle.ra_labels.specs.declared.refusal.Refusal.TheVariants.{UnknownLabel, NotAnUpdate, AlreadySeen, NotCausal}
use Rattle.ra_labels.specs.Records.{label_count}
use Rattle.ra_labels.specs.Visibility.{has_delivered, sees, is_update_at}
use Rattle.ra_labels.specs.Answer.{when, first_of}
use Rattle.ra_labels.specs.Places.{issuer_of, issue_position, updates_issued}
use Rattle.ra_labels.specs.TheoremTerms.{NoneDeliveredBeyond}
use Rattle.ra_labels.specs.HistorySoFar.{History, replicas_of}
use Rattle.ra_visibility.specs.declared.row.Row.{Row}
use Rattle.ra_visibility.specs.Replica.{Replica, new_replica}
use Rattle.ra_visibility.specs.Seen.{Seen, no_row, is_in, count_in}

pub record Tracked : Type 0 where
  pub replicas : List Replica
  -- one row for each label, oldest first
  pub rows : List Row
  -- rows of counts, one row after another, each with a count for each replica that existed when it was stored
  pub stored : List ℕ

abbrev pub replicas_in : Tracked → ℕ
replicas_in tracked = length tracked.replicas

abbrev pub labels_in : Tracked → ℕ
labels_in tracked = length tracked.rows

-- the data kept for a replica; below, for a label
abbrev pub replica_at : Tracked → ℕ → Replica
replica_at tracked replica = get_or tracked.replicas replica (new_replica 0)

abbrev pub row_at : Tracked → ℕ → Row
row_at tracked n = get_or tracked.rows n no_row

-- the number of updates of one replica that were delivered to another
abbrev pub delivered_count : Tracked → ℕ → ℕ → ℕ
delivered_count tracked replica of = get_or (replica_at tracked replica).counts of 0

-- the row of counts that is stored here with the given width
abbrev pub counts_at : Tracked → ℕ → ℕ → List ℕ
counts_at tracked at width = take width (drop at tracked.stored)

-- the set of updates that a label sees
abbrev pub seen_in : Tracked → ℕ → Seen
seen_in tracked n =
    let row = row_at tracked n in
    record { rows = tracked.rows; counts = set (counts_at tracked row.counts row.width) row.replica row.place }

-- the number of updates of a replica that a label sees
abbrev pub seen_count : Tracked → ℕ → ℕ → ℕ
seen_count tracked n of = count_in (seen_in tracked n) of

-- `true` if the label is an update
abbrev pub is_update_in : Tracked → ℕ → Bool
is_update_in tracked m = (row_at tracked m).is_update

-- `true` if the label is an update delivered to the replica
abbrev pub has_delivered_in : Tracked → ℕ → ℕ → Bool
has_delivered_in tracked replica m =
    is_in (record { rows = tracked.rows; counts = (replica_at tracked replica).counts }) m

-- `true` if label n sees label m
abbrev pub sees_in : Tracked → ℕ → ℕ → Bool
sees_in tracked n m = is_in (seen_in tracked n) m

-- `true` if the label sees label m, and m was not delivered to the replica
abbrev pub is_missing : Tracked → ℕ → ℕ → ℕ → Bool
is_missing tracked to label m = sees_in tracked label m && not (has_delivered_in tracked to m)

-- the least label that this one sees and that was not delivered to the replica; none if there is none
abbrev pub first_missing_in : Tracked → ℕ → ℕ → Option ℕ
first_missing_in tracked to label = find (is_missing tracked to label) (range_with_len 0 (labels_in tracked))

-- the first reason to reject a delivery to an existing replica, in the fixed order of the reasons
abbrev pub refusal_in : Tracked → ℕ → ℕ → Option Refusal
refusal_in tracked to label = first_of (
    when (not (nat_lt label (labels_in tracked))) UnknownLabel
    ∷ when (not (is_update_in tracked label)) NotAnUpdate
    ∷ when (has_delivered_in tracked to label) AlreadySeen
    ∷ option_map NotCausal (first_missing_in tracked to label)
    ∷ []
    )

-- holds if the tracker represents the visibility of the past
pub record IsVisibilityOf (tracked : Tracked) (past : History) : Type 0 where
  pub replicas : replicas_in tracked ≡ replicas_of past
  pub labels : labels_in tracked ≡ label_count past.records
  pub updates : (n : ℕ) → is_update_in tracked n ≡ is_update_at past.records n
  pub had : (replica n : ℕ) → replica < replicas_in tracked
      → has_delivered_in tracked replica n ≡ has_delivered past.records replica n
  pub sees : (n m : ℕ) → n < labels_in tracked → sees_in tracked n m ≡ sees past.records n m
  -- the replica of each label, and how many updates it had issued before
  pub issuer : (n : ℕ) → n < labels_in tracked → (row_at tracked n).replica ≡ issuer_of past.records n
  pub place : (n : ℕ) → n < labels_in tracked → (row_at tracked n).place ≡ issue_position past.records n
  pub issued : (replica : ℕ) → replica < replicas_in tracked
      → length (replica_at tracked replica).issued ≡ updates_issued past.records replica
  -- in the past nothing was delivered to a replica that does not exist
  pub beyond : NoneDeliveredBeyond past.initial_replicas past.records
