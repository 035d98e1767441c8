-- The numbering of the elements of an LWW set.
use Rattle.std.specs.Prelude.{ℕ, ◌+◌, ◌==◌, is_some, Option, Some, None, unwrap_or, if◌then◌else◌}
use Rattle.ra_labels.specs.declared.operation.Update.{Update}
use Rattle.ra_labels.specs.declared.operation.Update.TheVariants.{LwwAdd, LwwRemove}

-- the element of an LWW set that the update adds or removes; none for other updates
abbrev pub element_of : Update → Option ℕ
element_of (LwwAdd x) = Some x
element_of (LwwRemove x) = Some x
element_of _ = None

-- the number of an element, or 0 for a register's single value; the next number if the element has none
abbrev pub number_in : (ℕ → Option ℕ) → ℕ → Option ℕ → ℕ
number_in number_of count None = 0
number_in number_of count (Some x) = unwrap_or (number_of x) count

-- the elements' numbers, with this number for the element
abbrev pub number_with : (ℕ → Option ℕ) → Option ℕ → ℕ → ℕ → Option ℕ
number_with number_of None number y = number_of y
number_with number_of (Some x) number y = if x == y then Some number else number_of y

-- the number of elements after this one is numbered
abbrev pub count_with : (ℕ → Option ℕ) → ℕ → Option ℕ → ℕ
count_with number_of count None = count
count_with number_of count (Some x) = if is_some (number_of x) then count else count + 1
