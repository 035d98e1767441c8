-- Lists of elements, the pairs of an OR-Set, and the list of an RGA.
use Rattle.std.specs.Prelude.{ℕ, ◌==◌, nat_lt, Bool, true, not, ◌&&◌, List, [], ◌∷◌, map, filter, if◌then◌else◌}
use Rattle.std.specs.List.{list_all, list_any}
use Rattle.std.specs.Ordering.{nat_cmp, ordering_then}
use Rattle.std.specs.declared.cmp.Ordering.{Ordering}

-- `true` if x is in the list
abbrev pub is_among : ℕ → List ℕ → Bool
is_among x xs = list_any (λ y. x == y) xs

-- `true` if each element of either list is in the other, in any order and any number of times
abbrev pub have_same_elements : List ℕ → List ℕ → Bool
have_same_elements xs ys = list_all (λ x. is_among x ys) xs && list_all (λ y. is_among y xs) ys

-- `true` if the list is strictly increasing: each element is below all later ones
abbrev pub rises : List ℕ → Bool
rises [] = true
rises (x ∷ xs) = list_all (λ y. nat_lt x y) xs && rises xs

-- the order of pairs of an element and an identifier: by element, then by identifier
abbrev pub pair_cmp : ℕ × ℕ → ℕ × ℕ → Ordering
pair_cmp p q = ordering_then (nat_cmp p.0 q.0) (nat_cmp p.1 q.1)

-- the identifiers that the element is paired with, in the list's order
abbrev pub identifiers_of : ℕ → List (ℕ × ℕ) → List ℕ
identifiers_of x pairs = map (λ pair. pair.1) (filter (λ pair. x == pair.0) pairs)

-- the element of each pair, in the list's order
abbrev pub elements_of : List (ℕ × ℕ) → List ℕ
elements_of pairs = map (λ pair. pair.0) pairs

-- the pairs without those of the element and one of the identifiers
abbrev pub without_pairs : ℕ → List ℕ → List (ℕ × ℕ) → List (ℕ × ℕ)
without_pairs x ids pairs = filter (λ pair. not (x == pair.0 && is_among pair.1 ids)) pairs

-- `true` if x is in the list, shown or not
abbrev pub is_in_list : ℕ → List (ℕ × Bool) → Bool
is_in_list x list = list_any (λ entry. x == entry.0) list

-- the list with x inserted, shown, directly after the anchor; unchanged if the anchor is not in it
abbrev pub insert_after : ℕ → ℕ → List (ℕ × Bool) → List (ℕ × Bool)
insert_after anchor x [] = []
insert_after anchor x (entry ∷ list) =
    if anchor == entry.0 then entry ∷ (x, true) ∷ list else entry ∷ insert_after anchor x list

-- the list with x no longer shown
abbrev pub hide : ℕ → List (ℕ × Bool) → List (ℕ × Bool)
hide x list = map (λ entry. (entry.0, entry.1 && not (x == entry.0))) list

-- the elements that are shown, in their order
abbrev pub shown : List (ℕ × Bool) → List ℕ
shown list = map (λ entry. entry.0) (filter (λ entry. entry.1) list)
