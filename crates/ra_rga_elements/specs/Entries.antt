-- A sequence of elements, each with its number and its stamp.
use Rattle.std.specs.Prelude.{◌≡◌, ℕ, ◌-◌, ◌<◌, ◌≤◌, true, false, List, length, map, get_or, Option, Some, None, if◌then◌else◌}
use Rattle.std.specs.List.{All}
use Rattle.std.specs.Ordering.{is_lt}
use Rattle.ra_labels.specs.declared.label.Stamp.{Stamp}
use Rattle.ra_labels.specs.NamedOrder.{lowest_rank, stamp_cmp}
use Rattle.ra_rga_elements.specs.declared.entry.Entry.{Entry}

-- the entry of no element
abbrev pub no_entry : Entry
no_entry = record { number = 0; stamp = lowest_rank }

abbrev pub entry_at : List Entry → ℕ → Entry
entry_at entries index = get_or entries index no_entry

abbrev pub numbers_in : List Entry → List ℕ
numbers_in entries = map (λ entry. entry.number) entries

abbrev pub lesser_of : Stamp → Stamp → Stamp
lesser_of s t = if is_lt (stamp_cmp s t) then s else t

-- holds if none of the entries has a stamp below this one
abbrev pub AllAtLeast : Stamp → List Entry → Type 0
AllAtLeast least entries = All (λ entry. is_lt (stamp_cmp entry.stamp least) ≡ false) entries

-- holds if this is the number of the element at the index, or none if there is no such element
abbrev pub IsNumberAt : List Entry → ℕ → Option ℕ → Type 0
IsNumberAt entries index (Some number) = (index < length entries) × ((entry_at entries index).number ≡ number)
IsNumberAt entries index None = length entries ≤ index

-- holds if the position is directly after the element with this number
pub record IsBehind (entries : List Entry) (number position : ℕ) : Type 0 where
  pub some : 0 < position
  pub among : position ≤ length entries
  pub found : (entry_at entries (position - 1)).number ≡ number

-- holds if the elements from one index to another have a greater stamp than this one, and the next element does not
pub record IsPast (entries : List Entry) (from : ℕ) (stamp : Stamp) (to : ℕ) : Type 0 where
  pub behind : from ≤ to
  pub among : to ≤ length entries
  pub greater : (k : ℕ) → from ≤ k → k < to → is_lt (stamp_cmp stamp (entry_at entries k).stamp) ≡ true
  pub stops : to < length entries → is_lt (stamp_cmp stamp (entry_at entries to).stamp) ≡ false
