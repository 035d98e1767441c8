-- Sorted labels, as contracts describe them, and how they are kept in runs.
use Rattle.std.specs.Prelude.{◌≡◌, ◌≢◌, ℕ, ◌+◌, ◌<◌, nat_lt, true, List, [], ◌∷◌, ◌++◌, length, get_or, set, if◌then◌else◌}
use Rattle.std.specs.List.{list_all, AllByRecursion, insert}
use Rattle.std.specs.Ordering.{is_lt}
use Rattle.ra_labels.specs.declared.label.Stamp.{Stamp}
use Rattle.ra_labels.specs.NamedOrder.{lowest_rank, stamp_cmp}
use Rattle.ra_time_order.specs.declared.entry.Entry.{Entry}
use Rattle.ra_time_order.specs.declared.run.Run.{Run}
use Rattle.ra_time_order.specs.Positions.{no_entry}
use Rattle.ra_time_order.specs.Stamps.{AtMost}

pub record Sorted : Type 0 where
  pub entries : List Entry
  -- the number of further labels that there is room for
  pub room : ℕ

-- holds if the entry's rank is at most this one; below, at least this one
abbrev pub UpTo : Stamp → Entry → Type 0
UpTo rank entry = AtMost entry.rank rank

abbrev pub From : Stamp → Entry → Type 0
From rank entry = AtMost rank entry.rank

-- holds if the run's first rank is at least this one
abbrev pub StartsFrom : Stamp → Run → Type 0
StartsFrom rank run = AtMost rank run.first

abbrev pub HasRoom : Run → Type 0
HasRoom run = 0 < run.chunk.room

-- the labels of the runs, one run after another
abbrev pub joined : List Run → List Entry
joined [] = []
joined (run ∷ runs) = run.chunk.entries ++ joined runs

-- the sorted labels of the runs, with room for one more if each run has room
abbrev pub sorted_of : List Run → Sorted
sorted_of runs = record {
  entries = joined runs;
  room = if list_all (λ run. nat_lt 0 run.chunk.room) runs then 1 else 0;
}

-- holds if no rank is greater than that of a later label
abbrev pub Rise : List Entry → Type 0
Rise [] = Unit {0}
Rise (entry ∷ entries) = AllByRecursion (From entry.rank) entries × Rise entries

-- Holds if, after these labels, each run's first rank is between those of the labels before the run and those from it
-- on, and is at most that of each later run.
abbrev pub AreBetween : List Entry → List Run → Type 0
AreBetween before [] = Unit {0}
AreBetween before (run ∷ runs) =
    AllByRecursion (UpTo run.first) before
    × AllByRecursion (From run.first) (run.chunk.entries ++ joined runs)
    × AllByRecursion (StartsFrom run.first) runs
    × AreBetween (before ++ run.chunk.entries) runs

-- holds if it is the last run whose first rank is at most this one
pub record IsRunOf (runs : List Run) (rank : Stamp) (at : ℕ) : Type 0 where
  pub there : at < length runs
  pub under : (d : Run) → AtMost (get_or runs at d).first rank
  pub over : (k : ℕ) (d : Run) → at < k → k < length runs → is_lt (stamp_cmp rank (get_or runs k d).first) ≡ true

-- holds if the run is split in two, each with room
pub record AreHalvesOf (run left right : Run) : Type 0 where
  pub entries : left.chunk.entries ++ right.chunk.entries ≡ run.chunk.entries
  pub first : left.first ≡ run.first
  pub some : 0 < length right.chunk.entries
  pub begins : (get_or right.chunk.entries 0 no_entry).rank ≡ right.first
  pub left_room : 0 < left.chunk.room
  pub right_room : 0 < right.chunk.room

abbrev pub IsSplit : List Run → ℕ → List Run → Type 0
IsSplit runs at new =
    (left right : Run) × AreHalvesOf (get_or runs at left) left right × (new ≡ insert (set runs at left) (at + 1) right)

-- the invariant of runs with this number of labels, of which the newest is in the run at `newest`
pub record RunsKept (runs : List Run) (labels newest : ℕ) : Type 0 where
  pub count : labels ≡ length (joined runs)
  pub there : newest < length runs
  pub rise : Rise (joined runs)
  pub between : AreBetween [] runs
  pub lowest : (d : Run) → (get_or runs 0 d).first ≡ lowest_rank
  -- each other run has room
  pub room : (k : ℕ) (d : Run) → k < length runs → k ≢ newest → 0 < (get_or runs k d).chunk.room

-- holds if moreover no label has a rank above the last one
pub record SortedKept (runs : List Run) (labels newest : ℕ) (last : Stamp) : Type 0 where
  pub kept : RunsKept runs labels newest
  pub under : AllByRecursion (UpTo last) (joined runs)
