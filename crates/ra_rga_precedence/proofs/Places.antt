-- Lemmas on the places of labels in an order.
use Rattle.std.proofs.Common.{◌≡◌, ℕ, zero, suc, ◌<◌, List, [], ◌∷◌, length, get_or, refl, sym, subst, ◌∙◌, inl, inr, arith}
use Rattle.std.specs.Prelude.{Contains}
use Rattle.std.proofs.lemmas.Grind.{get_or_default_zero}
use Rattle.std.proofs.lemmas.List.Elements.{Contains-get_or}
use Rattle.ra_labels.specs.Edges.{IsBefore}
use Rattle.ra_list_order.proofs.Cycles.{AreNew}

-- two places of an order without repetition have two labels
pub distinct : (xs : List ℕ) (j k : ℕ) → AreNew xs → j < k → k < length xs → ¬ (get_or xs j 0 ≡ get_or xs k 0)
distinct [] j k new less within is = omega (arith, within)
distinct (x ∷ xs) j zero new less within is = omega (arith, less)
distinct (x ∷ xs) zero (suc k) new less within is =
    new.0 (subst (Contains xs) (sym is) (Contains-get_or xs k 0 (omega (arith, within))))
distinct (x ∷ xs) (suc j) (suc k) new less within is =
    distinct xs j k new.1 (omega (arith, less)) (omega (arith, within)) is

-- a label of the list is at a place
pub record IsAtPlace (xs : List ℕ) (x i : ℕ) : Type 0 where
  pub within : i < length xs
  pub here : get_or xs i 0 ≡ x

pub place_of : (xs : List ℕ) (x : ℕ) → Contains xs x → (i : ℕ) × IsAtPlace xs x i
place_of xs x (i, within, is) =
    (i, record { within = within; here = sym (get_or_default_zero xs i x within) ∙ is })

-- one label stands before another one at a lower place
pub places_of : (xs : List ℕ) (a b : ℕ) → IsBefore xs a b
    → (i j : ℕ) × (i < j) × IsAtPlace xs a i × IsAtPlace xs b j
places_of [] a b before = absurd before
places_of (x ∷ xs) a b (inl (is, there)) =
    let (j, at) = place_of xs b there in
    let low = at.within in
    (0, suc j, omega arith, record { within = omega arith; here = is }, record { within = omega (arith, low); here = at.here })
places_of (x ∷ xs) a b (inr further) =
    let (i, j, less, first, second) = places_of xs a b further in
    let first_low = first.within in
    let second_low = second.within in (
      suc i,
      suc j,
      omega (arith, less),
      record { within = omega (arith, first_low); here = first.here },
      record { within = omega (arith, second_low); here = second.here },
    )

-- of two places the elements come in this order
pub before_at : (xs : List ℕ) (i j : ℕ) → i < j → j < length xs → IsBefore xs (get_or xs i 0) (get_or xs j 0)
before_at [] i j less within = absurd (omega (arith, within))
before_at (x ∷ xs) zero zero less within = absurd (omega (arith, less))
before_at (x ∷ xs) zero (suc j) less within = inl (refl, Contains-get_or xs j 0 (omega (arith, within)))
before_at (x ∷ xs) (suc i) zero less within = absurd (omega (arith, less))
before_at (x ∷ xs) (suc i) (suc j) less within = inr (before_at xs i j (omega (arith, less)) (omega (arith, within)))
