-- The order with one more element.
use Rattle.std.proofs.Common.{◌≡◌, ℕ, ◌+◌, ◌<◌, ◌≤◌, cond, List, [], ◌∷◌, ◌++◌, length, get_or, take, drop, Result, Ok, Err, refl, sym, ap, ◌∙◌, subst, inl, inr, arith, append_assoc}
use Rattle.std.specs.Prelude.{◌==◌, Contains, count_by, Option, Some, None, OnOk, OnErr}
use Rattle.std.specs.List.{insert}
use Rattle.std.proofs.lemmas.Bool.{cases_Bool, cond-true, cond-false, eqb-true}
use Rattle.std.proofs.lemmas.List.{take_more, drop_more, take-append-drop, take_at, drop_at}
use Rattle.std.proofs.lemmas.List.Sums.{sum_by-cons}
use Rattle.std.proofs.lemmas.List.Sorted.{IsPermutation-insert, sum_by-IsPermutation}
use Rattle.ra_labels.specs.declared.edge.Edge.{Edge}
use Rattle.ra_labels.specs.Edges.{EachOnce, IsBefore, Extends}
use Rattle.ra_list_order.specs.ListOrder.{ListOrderKept, IsPut}
use Rattle.ra_list_order.proofs.Members.{at_head, behind_head}
use Rattle.ra_list_order.proofs.Befores.{before_wider}

not_counted : (xs : List ℕ) (x : ℕ) → ¬ Contains xs x → count_by (λ y. y == x) xs ≤ 0
not_counted [] x new = omega arith
not_counted (y ∷ ys) x new =
    let p : ℕ → ℕ = λ z. cond (z == x) 1 0 in
    let split = sum_by-cons p y ys in
    let rest = not_counted ys x (λ there. new (behind_head y ys x there)) in
    elim (cases_Bool (y == x)) [
      | inl same ↦ absurd (new (at_head y ys x (eqb-true y x same)))
      | inr other ↦
          let none : p y ≡ 0 = cond-false (y == x) 1 0 other in
          omega (arith, split, rest, none)
    ]

pub once_put : (order : List ℕ) (at element : ℕ) → ¬ Contains order element → EachOnce order
    → EachOnce (insert order at element)
once_put order at element new once x =
    let p : ℕ → ℕ = λ y. cond (y == x) 1 0 in
    let same = sum_by-IsPermutation p (element ∷ order) (insert order at element)
    (IsPermutation-insert order at element) in
    let split = sum_by-cons p element order in
    let low = once x in
    elim (cases_Bool (element == x)) [
      | inl is ↦
          let one : p element ≡ 1 = cond-true (element == x) 1 0 is in
          let none = not_counted order x (λ there. new (subst (λ y. Contains order y) (sym
          (eqb-true element x is)) there)) in
          omega (arith, same, split, one, none)
      | inr other ↦
          let none : p element ≡ 0 = cond-false (element == x) 1 0 other in
          omega (arith, same, split, none, low)
    ]

extends_put : (order : List ℕ) (at element : ℕ) (edges : List Edge) → Extends order edges
    → Extends (insert order at element) edges
extends_put order at element edges extends edge among =
    subst (λ xs. IsBefore xs edge.before edge.after) (append_assoc (take at order) (element ∷ []) (drop at order))
    (before_wider (take at order) (element ∷ []) (drop at order) edge.before edge.after
    (subst (λ xs. IsBefore xs edge.before edge.after) (sym (take-append-drop at order)) (extends edge among)))

kept_put : (order : List ℕ) (at element : ℕ) (edges : List Edge) (new : List ℕ) → new ≡ insert order at element
    → ¬ Contains order element → ListOrderKept order edges → ListOrderKept new edges
kept_put order at element edges new made fresh kept =
    subst (λ xs. ListOrderKept xs edges) (sym made) (record {
      once = once_put order at element fresh kept.once;
      extends = extends_put order at element edges kept.extends;
    })

pub put_behind : (order : List ℕ) (p left element : ℕ) (right : Option ℕ) (new : List ℕ) → p < length order
    → get_or order p 0 ≡ left → new ≡ insert order (p + 1) element → IsPut order (Some left) right element new
put_behind order p left element right new within is made =
    let front = take p order in
    let back = drop (p + 1) order in
    let more : take (p + 1) order ≡ front ++ left ∷ [] = take_more order p 0 within ∙ ap (λ x. front ++ x ∷ []) is in (
      front,
      back,
      sym (take-append-drop (p + 1) order) ∙ ap (λ xs. xs ++ back) more ∙ append_assoc front (left ∷ []) back,
      made ∙ ap (λ xs. xs ++ element ∷ back) more ∙ append_assoc front (left ∷ []) (element ∷ back),
    )

pub put_before : (order : List ℕ) (p right element : ℕ) (new : List ℕ) → p < length order
    → get_or order p 0 ≡ right → new ≡ insert order p element → IsPut order None (Some right) element new
put_before order p right element new within is made =
    let front = take p order in
    let back = drop (p + 1) order in
    let rest : drop p order ≡ right ∷ back = drop_more order p 0 within ∙ ap (λ x. x ∷ back) is in (
      front,
      back,
      sym (take-append-drop p order) ∙ ap (λ xs. front ++ xs) rest,
      made ∙ ap (λ xs. front ++ element ∷ xs) rest,
    )

parted : (front back old new : List ℕ) (element : ℕ) → old ≡ front ++ back → new ≡ front ++ element ∷ back
    → new ≡ insert old (length front) element
parted front back old new element old_is new_is =
    new_is ∙ ap (λ xs. xs ++ element ∷ back) (sym (take_at front back (length front) refl))
    ∙ ap (λ xs. take (length front) (front ++ back) ++ element ∷ xs) (sym (drop_at front back (length front) refl))
    ∙ ap (λ xs. insert xs (length front) element) (sym old_is)

-- an element that is put next to its neighbour is inserted somewhere
put_somewhere : (old : List ℕ) (left right : Option ℕ) (element : ℕ) (new : List ℕ) → IsPut old left right element new
    → (at : ℕ) × (new ≡ insert old at element)
put_somewhere old (Some left) right element new (front, back, old_is, new_is) = (
  length (front ++ left ∷ []),
  parted (front ++ left ∷ []) back old new element (old_is ∙ sym (append_assoc front (left ∷ []) back))
      (new_is ∙ sym (append_assoc front (left ∷ []) (element ∷ back))),
)
put_somewhere old None (Some right) element new (front, back, old_is, new_is) = (
  length front,
  parted front (right ∷ back) old new element old_is new_is,
)
put_somewhere old None None element new made = (0, made)

kept_as_put : (old : List ℕ) (left right : Option ℕ) (element : ℕ) (edges : List Edge) (new : List ℕ)
    → IsPut old left right element new → ¬ Contains old element → ListOrderKept old edges → ListOrderKept new edges
kept_as_put old left right element edges new put fresh kept =
    let at = put_somewhere old left right element new put in kept_put old at.0 element edges new at.1 fresh kept

-- the same, whether the element was put or nothing is changed
pub kept_by_result : {T E : Type 0} (r : Result T E) (old : List ℕ) (left right : Option ℕ) (element : ℕ)
    (edges : List Edge) (new : List ℕ) → OnOk r (IsPut old left right element new) → OnErr r (new ≡ old)
    → ¬ Contains old element → ListOrderKept old edges → ListOrderKept new edges
kept_by_result (Ok was) old left right element edges new put failed fresh kept =
    kept_as_put old left right element edges new put fresh kept
kept_by_result (Err was) old left right element edges new put failed fresh kept =
    subst (λ xs. ListOrderKept xs edges) (sym failed) kept
