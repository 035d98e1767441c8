-- The position of a rank among sorted labels.
use Rattle.std.specs.Prelude.{◌≡◌, ℕ, ◌≤◌, Bool, true, false, not, List, length, Option, Some, None}
use Rattle.std.specs.List.Sorted.{IsPartitionPoint}
use Rattle.std.specs.Ordering.{is_lt}
use Rattle.ra_labels.specs.declared.label.Stamp.{Stamp}
use Rattle.ra_labels.specs.NamedOrder.{lowest_rank, stamp_cmp}
use Rattle.ra_time_order.specs.declared.entry.Entry.{Entry}

-- the value used where there is no label, with the lowest rank
abbrev pub no_entry : Entry
no_entry = record { rank = lowest_rank; label = 0 }

-- `true` if the entry's rank is at most this one
abbrev pub not_above : Stamp → Entry → Bool
not_above rank entry = not (is_lt (stamp_cmp rank entry.rank))

-- holds if exactly the first `position` entries have a rank of at most this one
pub record IsPositionOf (rank : Stamp) (entries : List Entry) (position : ℕ) : Type 0 where
  pub among : position ≤ length entries
  pub split : IsPartitionPoint (λ entry. not_above rank entry ≡ true) (λ entry. not_above rank entry ≡ false)
      entries position

-- holds if there is a stamp, and no entry has a greater rank
abbrev pub IsPastAll : List Entry → Option Stamp → Type 0
IsPastAll entries (Some stamp) = IsPositionOf stamp entries (length entries)
IsPastAll entries None = ⊥
