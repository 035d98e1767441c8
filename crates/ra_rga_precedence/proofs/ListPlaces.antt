-- Lemmas on the places of a list.
use Rattle.std.proofs.Common.{◌≡◌, ℕ, zero, suc, ◌+◌, ◌<◌, List, [], ◌∷◌, ◌++◌, Option, Some, length, get_or, refl, sym, ap, subst, ◌∙◌, arith}
use Rattle.std.specs.Prelude.{Contains}
use Rattle.std.proofs.lemmas.Option.{same_Some}
use Rattle.std.proofs.lemmas.List.Elements.{Contains-get_or}
use Rattle.ra_labels.specs.TheoremTerms.{HasNoDuplicates}
use Rattle.ra_list_order.proofs.Cycles.{AreNew}
use Rattle.ra_rga_precedence.proofs.Places.{place_of}

pub new_from : (xs : List ℕ) → HasNoDuplicates xs → AreNew xs
new_from [] once = tt
new_from (x ∷ xs) once = (once.0, new_from xs once.1)

-- a list splits at two neighbours
split_next : (xs : List ℕ) (i : ℕ) → suc i < length xs
    → (before after : List ℕ) × (xs ≡ before ++ get_or xs i 0 ∷ get_or xs (suc i) 0 ∷ after)
split_next [] i within = absurd (omega (arith, within))
split_next (x ∷ []) i within = absurd (omega (arith, within))
split_next (x ∷ y ∷ xs) zero within = ([], xs, refl)
split_next (x ∷ y ∷ xs) (suc i) within =
    let (before, after, is) = split_next (y ∷ xs) i (omega (arith, within)) in
    (x ∷ before, after, ap (λ zs. x ∷ zs) is)

pub split_pair : (xs : List ℕ) (i : ℕ) → i + 1 < length xs
    → (before after : List ℕ) × (xs ≡ before ++ get_or xs i 0 ∷ get_or xs (i + 1) 0 ∷ after)
split_pair xs i within =
    let next : suc i ≡ i + 1 = omega arith in
    subst (λ j. (before after : List ℕ) × (xs ≡ before ++ get_or xs i 0 ∷ get_or xs j 0 ∷ after)) next
    (split_next xs i (omega (arith, within)))

-- the places of two neighbours
pub record ArePlaced (xs : List ℕ) (x y i j : ℕ) : Type 0 where
  pub within : j < length xs
  pub first : get_or xs i 0 ≡ x
  pub second : get_or xs j 0 ≡ y

next_at : (before after : List ℕ) (x y : ℕ)
    → ArePlaced (before ++ x ∷ y ∷ after) x y (length before) (suc (length before))
next_at [] after x y = record { within = omega arith; first = refl; second = refl }
next_at (z ∷ before) after x y =
    let rest = next_at before after x y in
    let low = rest.within in
    record { within = omega (arith, low); first = rest.first; second = rest.second }

pub pair_at : (before after : List ℕ) (x y : ℕ)
    → ArePlaced (before ++ x ∷ y ∷ after) x y (length before) (length before + 1)
pair_at before after x y =
    let next : suc (length before) ≡ length before + 1 = omega arith in
    subst (ArePlaced (before ++ x ∷ y ∷ after) x y (length before)) next (next_at before after x y)

-- a list is without repetition if what a function says of its elements is so
pub once_by : (f : ℕ → Option ℕ) (xs labels : List ℕ) → length labels ≡ length xs
    → ((i : ℕ) → i < length labels → f (get_or xs i 0) ≡ Some (get_or labels i 0)) → HasNoDuplicates labels
    → HasNoDuplicates xs
once_by f [] labels len each once = tt
once_by f (x ∷ xs) [] len each once = absurd (omega (arith, len))
once_by f (x ∷ xs) (l ∷ labels) len each once = (
  (λ there.
      let (j, at) = place_of xs x there in
      let low = at.within in
      let within : j < length labels = omega (arith, low, len) in
      let same : get_or labels j 0 ≡ l = same_Some (get_or labels j 0) l
      (sym (each (suc j) (omega (arith, within))) ∙ ap f at.here ∙ each 0 (omega arith)) in
      once.0 (subst (Contains labels) same (Contains-get_or labels j 0 within))),
  once_by f xs labels (omega (arith, len)) (λ i below. each (suc i) (omega (arith, below))) once.1,
)
