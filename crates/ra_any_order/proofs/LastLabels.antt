-- Lemmas on the last label of each replica, label by label.
use Rattle.std.proofs.Common.{◌≡◌, ℕ, ◌+◌, ◌<◌, ◌≤◌, List, [], ◌∷◌, ◌++◌, Option, Some, None, length, get_or, set, sym, subst, ◌∙◌, inl, inr, arith}
use Rattle.std.specs.Prelude.{IfSome}
use Rattle.std.proofs.lemmas.Bool.{cases_eq, cases_lt}
use Rattle.std.proofs.lemmas.List.{length-set, length-append, get_or_past, get_or-set_same, get_or-set_other, get_or_append_left}
use Rattle.std.proofs.Math.Seq.{get_or-append_seam}
use Rattle.ra_labels.specs.Records.{Records}
use Rattle.ra_labels.specs.Places.{issuer_of}
use Rattle.ra_any_order.specs.Previous.{IsLastBelow, AreBelow}
use Rattle.ra_any_order.specs.Changes.{ArePrevious}

-- of each replica the last label below a number
abbrev pub AreLastBelow : Records → ℕ → List (Option ℕ) → Type 0
AreLastBelow records bound last = (q : ℕ) → q < length last → IsLastBelow records bound q (get_or last q None)

last_skips : (records : Records) (n q : ℕ) (last : Option ℕ) → ¬ (issuer_of records n ≡ q)
    → IsLastBelow records n q last → IsLastBelow records (n + 1) q last
last_skips records n q None other none = λ m below issued. elim (cases_eq m n) [
  | inl is ↦ other (subst (λ k. issuer_of records k ≡ q) is issued)
  | inr earlier ↦ none m (omega (arith, below, earlier)) issued
]
last_skips records n q (Some p) other (p_below, p_issued, latest) = (
  omega (arith, p_below),
  p_issued,
  λ m below issued. elim (cases_eq m n) [
    | inl is ↦ absurd (other (subst (λ k. issuer_of records k ≡ q) is issued))
    | inr earlier ↦ latest m (omega (arith, below, earlier)) issued
  ],
)

pub last_more : (records : Records) (n : ℕ) (last : List (Option ℕ)) (r : ℕ) → r < length last
    → r ≡ issuer_of records n → AreLastBelow records n last → AreLastBelow records (n + 1) (set last r (Some n))
last_more records n last r there is are q within = elim (cases_eq q r) [
  | inl same ↦
      subst (IsLastBelow records (n + 1) q) (sym (subst (λ k. get_or (set last r (Some n)) k None ≡ Some n) (sym same)
      (get_or-set_same last r (Some n) None there)))
      (omega arith, sym is ∙ sym same, λ m below issued. omega (arith, below))
  | inr other ↦
      subst (IsLastBelow records (n + 1) q) (sym (get_or-set_other last r q (Some n) None other))
      (last_skips records n q (get_or last q None) (λ issued. other (sym issued ∙ sym is))
      (are q (subst (λ k. q < k) (length-set last r (Some n)) within)))
]

pub previous_more : (records : Records) (n : ℕ) (last previous : List (Option ℕ)) (r : ℕ) → r < length last
    → r ≡ issuer_of records n → AreLastBelow records n last → length previous ≡ n → ArePrevious records n previous
    → ArePrevious records (n + 1) (previous ++ get_or last r None ∷ [])
previous_more records n last previous r there is are len each k below = elim (cases_eq k n) [
  | inl here ↦
      subst (λ j. IsLastBelow records j (issuer_of records j) (get_or (previous ++ get_or last r None ∷ []) j None))
      (sym here)
      (subst (IsLastBelow records n (issuer_of records n))
      (sym (subst (λ j. get_or (previous ++ get_or last r None ∷ []) j None ≡ get_or last r None) len
      (get_or-append_seam previous (get_or last r None) [] None)))
      (subst (λ q. IsLastBelow records n q (get_or last r None)) is (are r there)))
  | inr earlier ↦
      subst (IsLastBelow records k (issuer_of records k))
      (sym (get_or_append_left previous (get_or last r None ∷ []) None k (omega (arith, below, earlier, len))))
      (each k (omega (arith, below, earlier)))
]

-- ---- bounds
raised : (n : ℕ) (o : Option ℕ) → IfSome o (λ p. p < n) → IfSome o (λ p. p < n + 1)
raised n None below = tt
raised n (Some p) below = omega (arith, below)

pub below_set : (n : ℕ) (last : List (Option ℕ)) (r : ℕ) → r < length last → AreBelow n last
    → AreBelow (n + 1) (set last r (Some n))
below_set n last r there below i = elim (cases_eq i r) [
  | inl is ↦
      subst (λ o. IfSome o (λ p. p < n + 1)) (sym (subst (λ k. get_or (set last r (Some n)) k None ≡ Some n) (sym is)
      (get_or-set_same last r (Some n) None there))) (omega arith)
  | inr other ↦
      subst (λ o. IfSome o (λ p. p < n + 1)) (sym (get_or-set_other last r i (Some n) None other))
      (raised n (get_or last i None) (below i))
]

pub below_pushed : (n : ℕ) (last previous : List (Option ℕ)) (r : ℕ) → length previous ≡ n → AreBelow n last
    → AreBelow n previous → AreBelow (n + 1) (previous ++ get_or last r None ∷ [])
below_pushed n last previous r len last_below below i =
    let new = get_or last r None in
    let grown = previous ++ new ∷ [] in
    elim (cases_lt i n) [
      | inl less ↦
          subst (λ o. IfSome o (λ p. p < n + 1)) (sym (get_or_append_left previous (new ∷ []) None i
          (omega (arith, less, len)))) (raised n (get_or previous i None) (below i))
      | inr more ↦ elim (cases_eq i n) [
        | inl is ↦
            subst (λ k. IfSome (get_or grown k None) (λ p. p < n + 1)) (len ∙ sym is)
            (subst (λ o. IfSome o (λ p. p < n + 1)) (sym (get_or-append_seam previous new [] None))
            (raised n new (last_below r)))
        | inr other ↦
            subst (λ o. IfSome o (λ p. p < n + 1)) (sym (get_or_past grown i None
            (let long = length-append previous (new ∷ []) in omega (arith, long, len, more, other)))) tt
      ]
    ]

pub below_later : (n bound : ℕ) (labels : List (Option ℕ)) → n ≤ bound → AreBelow n labels → AreBelow bound labels
below_later n bound labels less below i = go (get_or labels i None) (below i)
  where
    go : (o : Option ℕ) → IfSome o (λ p. p < n) → IfSome o (λ p. p < bound)
    go None it = tt
    go (Some p) it = omega (arith, it, less)

pub below_none : (n : ℕ) (labels : List (Option ℕ)) → ((i : ℕ) → get_or labels i None ≡ None) → AreBelow n labels
below_none n labels none i = subst (λ o. IfSome o (λ p. p < n)) (sym (none i)) tt

-- each entry is below its own label
pub earlier_pushed : (n : ℕ) (last previous : List (Option ℕ)) (r : ℕ) → length previous ≡ n → AreBelow n last
    → ((i : ℕ) → IfSome (get_or previous i None) (λ m. m < i)) → (i : ℕ)
    → IfSome (get_or (previous ++ get_or last r None ∷ []) i None) (λ m. m < i)
earlier_pushed n last previous r len last_below earlier i =
    let new = get_or last r None in
    let grown = previous ++ new ∷ [] in
    elim (cases_lt i n) [
      | inl less ↦
          subst (λ o. IfSome o (λ m. m < i)) (sym (get_or_append_left previous (new ∷ []) None i
          (omega (arith, less, len)))) (earlier i)
      | inr more ↦ elim (cases_eq i n) [
        | inl is ↦
            subst (λ k. IfSome (get_or grown k None) (λ m. m < k)) (len ∙ sym is)
            (subst (λ o. IfSome o (λ m. m < length previous)) (sym (get_or-append_seam previous new [] None))
            (subst (λ k. IfSome new (λ m. m < k)) (sym len) (last_below r)))
        | inr other ↦
            subst (λ o. IfSome o (λ m. m < i)) (sym (get_or_past grown i None
            (let long = length-append previous (new ∷ []) in omega (arith, long, len, more, other)))) tt
      ]
    ]
