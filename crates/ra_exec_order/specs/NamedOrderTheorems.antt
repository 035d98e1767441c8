-- The numbers of the labels in execution order.
use Rattle.std.proofs.Common.{◌≡◌, ℕ, zero, suc, List, [], ◌∷◌, ◌++◌, refl, sym, ap, ◌∙◌}
use Rattle.std.specs.Prelude.{map, reverse}
use mathlib.Core.List.{reverse-cons}
use Rattle.std.proofs.lemmas.List.{map-append}
use Rattle.ra_labels.specs.declared.kind.Kind.{Kind}
use Rattle.ra_labels.specs.declared.label.Label.{Label}
use Rattle.ra_labels.specs.Records.{Records, label_count, labels_of}
use Rattle.ra_labels.specs.TheoremTerms.{numbers_below}
use Rattle.ra_theorems.proofs.TheoremIndex.{labels_numbered_consecutively, execution_order_is_acceptance_order-labels}
use Rattle.ra_visibility.specs.Order.{IsByExecution, numbers_in}

-- 0, 1, .., n - 1
abbrev pub first_numbers : ℕ → List ℕ
first_numbers zero = []
first_numbers (suc n) = first_numbers n ++ n ∷ []

map-reverse : (f : Label → ℕ) (xs : List Label) → map f (reverse xs) ≡ reverse (map f xs)
map-reverse f [] = refl
map-reverse f (x ∷ xs) =
    ap (map f) (reverse-cons x xs)
    ∙ map-append f (reverse xs) (x ∷ [])
    ∙ ap (λ ns. ns ++ f x ∷ []) (map-reverse f xs)
    ∙ sym (reverse-cons (f x) (map f xs))

reverse-numbers_below : (n : ℕ) → reverse (numbers_below n) ≡ first_numbers n
reverse-numbers_below zero = refl
reverse-numbers_below (suc n) =
    reverse-cons n (numbers_below n) ∙ ap (λ ns. ns ++ n ∷ []) (reverse-numbers_below n)

-- in execution order, these are the numbers of the labels in the named order
pub first_numbers-listed : (n : ℕ) (kind : Kind) (records : Records) → IsByExecution kind → n ≡ label_count records
    → first_numbers n ≡ numbers_in kind records
first_numbers-listed n kind records by_execution is =
    let number : Label → ℕ = λ label. label.number in
    ap first_numbers is
    ∙ sym (reverse-numbers_below (label_count records))
    ∙ ap reverse (sym (labels_numbered_consecutively records))
    ∙ sym (map-reverse number (labels_of records))
    ∙ ap (map number) (sym (execution_order_is_acceptance_order-labels kind records (by_execution records)))
