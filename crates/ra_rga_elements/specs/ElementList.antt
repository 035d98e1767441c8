-- An element list, as contracts describe it, and the terms of its clauses.
use Rattle.std.specs.Prelude.{◌≡◌, ℕ, ◌<◌, Bool, true, false, List, ◌∷◌, ◌++◌, length, get_or, Option, Some, None}
use Rattle.std.specs.List.{count_by}
use Rattle.std.specs.Ordering.{is_lt}
use Rattle.ra_labels.specs.declared.label.Stamp.{Stamp}
use Rattle.ra_labels.specs.NamedOrder.{lowest_rank, stamp_cmp}

-- an element as it arrived
pub record Arrival : Type 0 where
  pub element : ℕ
  pub stamp : Stamp
  -- the number of its anchor
  pub anchor : ℕ

pub record ElementList : Type 0 where
  -- the elements in the order of the list, the root first
  pub elements : List ℕ
  -- the arrived elements, by number
  pub arrivals : List Arrival
  -- `true` if there is room for one more element
  pub has_room : Bool

-- the root, which comes before all other elements
abbrev pub root : Arrival
root = record { element = 0; stamp = lowest_rank; anchor = 0 }

abbrev pub arrival_at : List Arrival → ℕ → Arrival
arrival_at arrivals number = get_or arrivals number root

-- holds if, for x with this stamp, the test is true of exactly the elements that have a greater one
abbrev pub IsBelowByStamp : (ℕ → ℕ → Bool) → ℕ → Stamp → List Arrival → Type 0
IsBelowByStamp below x stamp arrivals = (n : ℕ) → n < length arrivals
    → below x (arrival_at arrivals n).element ≡ is_lt (stamp_cmp stamp (arrival_at arrivals n).stamp)

-- `true` if the number is marked; no number beyond the end is
abbrev pub is_marked : List Bool → ℕ → Bool
is_marked marks number = get_or marks number false

-- holds if the test keeps exactly the elements whose numbers are marked
abbrev pub IsKeptByMark : (ℕ → Bool) → List Bool → List Arrival → Type 0
IsKeptByMark keep marks arrivals = (n : ℕ) → n < length arrivals
    → keep (arrival_at arrivals n).element ≡ is_marked marks n

-- holds if x is somewhere after p
abbrev pub IsSomewhereBehind : List (ℕ × Bool) → ℕ → ℕ → Type 0
IsSomewhereBehind list x p = (before between behind : List (ℕ × Bool)) × (is_shown was_shown : Bool)
    × (list ≡ before ++ (p, is_shown) ∷ between ++ (x, was_shown) ∷ behind)

-- the number of marks
abbrev pub marked_count : List Bool → ℕ
marked_count marks = count_by (λ mark. mark) marks

-- holds if the index is that of the element with this number, or the end of the list if there is no number
abbrev pub IsIndexOf : ElementList → Option ℕ → ℕ → Type 0
IsIndexOf list None index = index ≡ length list.elements
IsIndexOf list (Some number) index = (number < length list.arrivals) × (index < length list.elements)
    × (get_or list.elements index 0 ≡ (arrival_at list.arrivals number).element)

-- holds if x is in the list, before the element with this number if there is one
abbrev pub IsBefore : ElementList → Option ℕ → ℕ → Type 0
IsBefore list behind x = (i j : ℕ) × IsIndexOf list behind i × (j < i) × (get_or list.elements j 0 ≡ x)

-- holds if this is the number of x, which is marked and before the element with the other number
abbrev pub IsMarkedBefore : ElementList → List Bool → Option ℕ → ℕ → ℕ → Type 0
IsMarkedBefore list marks behind x number = (number < length list.arrivals)
    × ((arrival_at list.arrivals number).element ≡ x) × (is_marked marks number ≡ true) × IsBefore list behind x
