-- Labels sorted by rank, given the rank of each label by its number.
use Rattle.std.specs.Prelude.{ℕ, suc, ◌<◌, List, [], ◌∷◌, length}
use Rattle.std.specs.List.{AllByRecursion}
use Rattle.std.specs.Ordering.{nat_cmp, ordering_then}
use Rattle.std.specs.declared.cmp.Ordering.{Ordering}
use Rattle.std.specs.BTreeSet.{insert_key}
use Rattle.ra_labels.specs.declared.label.Stamp.{Stamp}
use Rattle.ra_labels.specs.NamedOrder.{stamp_cmp}
use Rattle.ra_time_order.specs.declared.entry.Entry.{Entry}
use Rattle.ra_time_order.specs.Sorted.{UpTo}

-- the order of entries: by rank, then by number
abbrev pub entry_cmp : Entry → Entry → Ordering
entry_cmp e f = ordering_then (stamp_cmp e.rank f.rank) (nat_cmp e.label f.label)

-- sorted entries, with those of further labels, which have these ranks and the numbers from this one on
abbrev pub sorted_with : List Entry → ℕ → List Stamp → List Entry
sorted_with entries number [] = entries
sorted_with entries number (rank ∷ ranks) =
    sorted_with (insert_key entry_cmp entries (record { rank = rank; label = number })) (suc number) ranks

abbrev pub sorted_ranks : List Stamp → List Entry
sorted_ranks ranks = sorted_with [] 0 ranks

-- holds if there are fewer labels than numbers, and none has a rank above the last one
pub record RanksKept (ranks : List Stamp) (last : Stamp) : Type 0 where
  pub few : length ranks < 4294967296
  pub under : AllByRecursion (UpTo last) (sorted_ranks ranks)
