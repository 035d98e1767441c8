-- The numbers of a list's elements.
use Rattle.std.specs.Prelude.{◌≡◌, ◌↔◌, ℕ, List, Option, Some, map, Contains}
use Rattle.std.specs.List.{slice_get}

-- the representation invariant: a number is stored for an element exactly if the element is at that index
abbrev pub AreNumbered : (ℕ → Option ℕ) → List ℕ → Type 0
AreNumbered number_of elements = (x n : ℕ) → (number_of x ≡ Some n) ↔ (slice_get elements n ≡ Some x)

-- holds if these are the numbers of the listed elements, in the order of the list
abbrev pub AreNumbersOf : List ℕ → List ℕ → List ℕ → Type 0
AreNumbersOf elements list numbers = map (slice_get elements) numbers ≡ map Some list

-- holds if the list has an element without a number
abbrev pub HasUnnumbered : List ℕ → List ℕ → Type 0
HasUnnumbered elements list = (x : ℕ) × Contains list x × ((n : ℕ) → ¬ (slice_get elements n ≡ Some x))

-- holds if no element is at two indexes
abbrev pub HasOneNumberEach : List ℕ → Type 0
HasOneNumberEach elements = (x m n : ℕ) → slice_get elements m ≡ Some x → slice_get elements n ≡ Some x → m ≡ n
