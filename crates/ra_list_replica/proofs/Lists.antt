-- The numbers of a list with one more element.
use Rattle.std.proofs.Common.{ℕ, List, [], ◌∷◌, ◌++◌, map, Some, ap, ◌∙◌, sym, ◌≡◌}
use Rattle.std.specs.List.{slice_get}
use Rattle.std.proofs.lemmas.List.{map-append}
use Rattle.ra_list_replica.specs.Numbers.{AreNumbersOf}

pub numbers_more : (elements list numbers : List ℕ) (x n : ℕ) → AreNumbersOf elements list numbers
    → slice_get elements n ≡ Some x → AreNumbersOf elements (list ++ x ∷ []) (numbers ++ n ∷ [])
numbers_more elements list numbers x n are is =
    map-append (slice_get elements) numbers (n ∷ []) ∙ ap (λ os. os ++ slice_get elements n ∷ []) are
    ∙ ap (λ o. map Some list ++ o ∷ []) is ∙ sym (map-append Some list (x ∷ []))
