-- The numbers of an insertion's elements.
use Rattle.std.proofs.Common.{◌≡◌, ℕ, ◌<◌, ◌≤◌, List, [], ◌∷◌, ◌++◌, length, map, Option, Some, None, sym, ap, ◌∙◌, inl, inr, arith}
use Rattle.std.specs.Prelude.{Contains, ◌==◌, IfSome}
use Rattle.std.proofs.lemmas.Bool.{cond-true, cond-false, eq-eqb, ne_eqb}
use Rattle.std.proofs.lemmas.Option.{slice_get_within, get_or_from_slice_get}
use Rattle.std.proofs.lemmas.List.{map-append, get_or_append_left, get_or_push}
use Rattle.std.proofs.lemmas.List.Elements.{Contains-append_cases}
use Rattle.ra_labels.specs.declared.insertion.Insertion.{Insertion}
use Rattle.ra_labels.specs.Neighborhood.{named, neighborhood}
use Rattle.ra_labels.proofs.Members.{head_or_behind, none_there}
use Rattle.ra_list_edges.specs.declared.placing.Placement.{Placement}
use Rattle.ra_list_edges.specs.Placed.{listed, placed}
use Rattle.ra_list_witness.specs.Named.{element_at, IsNeighbor, IsPlacement}

module _ (elements : List ℕ) where
  -- a neighbour's number is that of an earlier element
  pub neighbor_within : (x : ℕ) (number : Option ℕ) → IsNeighbor elements x number
      → IfSome number (λ n. n < length elements)
  neighbor_within x None is = tt
  neighbor_within x (Some n) is = slice_get_within elements n x is.1

  pub neighbor_kept : (x : ℕ) (number : Option ℕ) (P : ℕ → Type 0) → IsNeighbor elements x number
      → ((n : ℕ) → n < length elements → P n) → IfSome number P
  neighbor_kept x None P is all = tt
  neighbor_kept x (Some n) P is all = all n (slice_get_within elements n x is.1)

  listed_few : (number : Option ℕ) (n : ℕ) → IfSome number (λ m. m < length elements) → Contains (listed number) n
      → n ≤ length elements
  listed_few None n few there = absurd (none_there n there)
  listed_few (Some m) n few there = elim (head_or_behind m [] n there) [
    | inl here ↦ omega (arith, here, few)
    | inr further ↦ absurd (none_there n further)
  ]

  -- no number is greater than that of the new element
  pub placed_few : (insertion : Insertion) (placement : Placement) → IsPlacement elements insertion placement → (n : ℕ)
      → Contains (placed placement) n → n ≤ length elements
  placed_few insertion placement is n there =
      elim (Contains-append_cases (listed placement.left) (placement.element ∷ listed placement.right) n there) [
        | inl left ↦ listed_few placement.left n (neighbor_within insertion.left placement.left is.left) left
        | inr others ↦ elim (head_or_behind placement.element (listed placement.right) n others) [
          | inl here ↦ omega (arith, here, is.element)
          | inr right ↦ listed_few placement.right n (neighbor_within insertion.right placement.right is.right) right
        ]
      ]

  -- the elements of a neighbour's number, if there is one
  neighbor_named : (new x : ℕ) (number : Option ℕ) → IsNeighbor elements x number
      → map (element_at (elements ++ new ∷ [])) (listed number) ≡ named x
  neighbor_named new x None is = sym (cond-true (x == 0) [] (x ∷ []) (eq-eqb x 0 is))
  neighbor_named new x (Some n) is =
      ap (λ y. y ∷ []) (get_or_append_left elements (new ∷ []) 0 n (slice_get_within elements n x is.1)
      ∙ get_or_from_slice_get elements n x 0 is.1)
      ∙ sym (cond-false (x == 0) [] (x ∷ []) (ne_eqb x 0 is.0))

  -- the placed numbers are those of the insertion's elements
  pub placed_named : (insertion : Insertion) (placement : Placement) → IsPlacement elements insertion placement
      → map (element_at (elements ++ insertion.element ∷ [])) (placed placement) ≡ neighborhood insertion
  placed_named insertion placement is =
      map-append (element_at (elements ++ insertion.element ∷ [])) (listed placement.left)
      (placement.element ∷ listed placement.right)
      ∙ ap (λ xs. xs ++ map (element_at (elements ++ insertion.element ∷ [])) (placement.element ∷ listed placement.right))
      (neighbor_named insertion.element insertion.left placement.left is.left)
      ∙ ap (λ x. named insertion.left
      ++ (x ∷ map (element_at (elements ++ insertion.element ∷ [])) (listed placement.right)))
      (get_or_push elements insertion.element 0 placement.element (sym is.element))
      ∙ ap (λ xs. named insertion.left ++ (insertion.element ∷ xs))
      (neighbor_named insertion.element insertion.right placement.right is.right)
