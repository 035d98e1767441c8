-- A replica's view of a list, as contracts describe it, and the lists that it shows.
use Rattle.std.specs.Prelude.{◌≡◌, ℕ, Bool, true, false, List, Some, get_or, count_by, Contains}
use Rattle.std.specs.List.{slice_get}
use Rattle.ra_labels.specs.TheoremTerms.{HasNoDuplicates}
use Rattle.ra_list_replica.specs.declared.mark.Mark.{Mark}
use Rattle.ra_list_replica.specs.declared.mark.Mark.TheVariants.{Missing, Shown}

pub record View : Type 0 where
  -- for each number what the view says of its element; further ones are missing
  pub marks : List Mark
  -- the numbers of the elements of the replica's last read, in order
  pub last : List ℕ

abbrev pub mark_at : List Mark → ℕ → Mark
mark_at marks number = get_or marks number Missing

abbrev pub is_shown : Mark → Bool
is_shown Shown = true
is_shown _ = false

-- the number of elements that are shown
abbrev pub shown_count : List Mark → ℕ
shown_count marks = count_by is_shown marks

-- holds if the view shows the element
abbrev pub IsShown : List ℕ → List Mark → ℕ → Type 0
IsShown elements marks x = (n : ℕ) × (slice_get elements n ≡ Some x) × (mark_at marks n ≡ Shown)

-- holds if the list has shown elements alone, each at most once
pub record IsPart (elements : List ℕ) (marks : List Mark) (list : List ℕ) : Type 0 where
  pub once : HasNoDuplicates list
  pub shown : (x : ℕ) → Contains list x → IsShown elements marks x

-- holds if the list has exactly the shown elements, each once: each shown number is that of a listed element
pub record IsRead (elements : List ℕ) (marks : List Mark) (list : List ℕ) : Type 0 where
  pub part : IsPart elements marks list
  pub all : (n : ℕ) → mark_at marks n ≡ Shown → (x : ℕ) × (slice_get elements n ≡ Some x) × Contains list x
