-- Lemmas on the newest updates that a label sees, replica by replica.
use Rattle.std.proofs.Common.{◌≡◌, ℕ, ◌+◌, ◌<◌, ◌≤◌, true, List, [], ◌∷◌, ◌++◌, Some, None, refl, subst, sym, ◌∙◌, inl, inr, arith}
use Rattle.std.specs.Prelude.{Contains}
use Rattle.std.proofs.lemmas.Bool.{cases_eq}
use Rattle.std.proofs.lemmas.List.Elements.{Contains-append_left, Contains-append_right, Contains-append_cases}
use Rattle.ra_labels.specs.Records.{Records}
use Rattle.ra_labels.specs.Visibility.{sees}
use Rattle.ra_labels.specs.Places.{issuer_of}
use Rattle.ra_labels.proofs.Members.{head_or_behind, at_head, none_there}
use Rattle.ra_visibility.specs.Newest.{IsNewestSeen, AreNewest}

-- holds if the list has the newest updates of the replicas below a number
pub record AreNewestBelow (records : Records) (n : ℕ) (newest : List ℕ) (bound : ℕ) : Type 0 where
  pub seen : (m : ℕ) → Contains newest m → sees records n m ≡ true
  pub latest : (k : ℕ) → sees records n k ≡ true → issuer_of records k < bound
      → (m : ℕ) × Contains newest m × (k ≤ m) × (issuer_of records k ≡ issuer_of records m)

pub newest_none : (records : Records) (n : ℕ) → AreNewestBelow records n [] 0
newest_none records n = record {
  seen = λ m there. absurd (none_there m there);
  latest = λ k seen below. absurd (omega (arith, below));
}

pub newest_more : (records : Records) (n : ℕ) (newest : List ℕ) (q m : ℕ) → AreNewestBelow records n newest q
    → IsNewestSeen records n q (Some m) → AreNewestBelow records n (newest ++ m ∷ []) (q + 1)
newest_more records n newest q m are (seen, issued, latest) = record {
  seen =
      λ k there. elim (Contains-append_cases newest (m ∷ []) k there) [
        | inl older ↦ are.seen k older
        | inr new ↦ elim (head_or_behind m [] k new) [
          | inl here ↦ subst (λ l. sees records n l ≡ true) here seen
          | inr further ↦ absurd (none_there k further)
        ]
      ];
  latest =
      λ k k_seen below. elim (cases_eq (issuer_of records k) q) [
        | inl is ↦ (
          m,
          Contains-append_right newest (m ∷ []) m (at_head m [] m refl),
          latest k k_seen is,
          is ∙ sym issued,
        )
        | inr other ↦
            let (l, there, later, same) = are.latest k k_seen (omega (arith, below, other)) in
            (l, Contains-append_left newest (m ∷ []) l there, later, same)
      ];
}

pub newest_same : (records : Records) (n : ℕ) (newest : List ℕ) (q : ℕ) → AreNewestBelow records n newest q
    → IsNewestSeen records n q None → AreNewestBelow records n newest (q + 1)
newest_same records n newest q are none = record {
  seen = are.seen;
  latest =
      λ k k_seen below. elim (cases_eq (issuer_of records k) q) [
        | inl is ↦ absurd (none k k_seen is)
        | inr other ↦ are.latest k k_seen (omega (arith, below, other))
      ];
}

pub newest_all : (records : Records) (n : ℕ) (newest : List ℕ) (bound : ℕ) → AreNewestBelow records n newest bound
    → ((k : ℕ) → sees records n k ≡ true → issuer_of records k < bound) → AreNewest records n newest
newest_all records n newest bound are below =
    record { seen = are.seen; latest = λ k seen. are.latest k seen (below k seen) }

-- a list of numbers below a bound, with one more
pub below_more : (xs : List ℕ) (x bound : ℕ) → ((m : ℕ) → Contains xs m → m < bound) → x < bound
    → (m : ℕ) → Contains (xs ++ x ∷ []) m → m < bound
below_more xs x bound all last m there = elim (Contains-append_cases xs (x ∷ []) m there) [
  | inl older ↦ all m older
  | inr new ↦ elim (head_or_behind x [] m new) [
    | inl here ↦ subst (λ k. k < bound) here last
    | inr further ↦ absurd (none_there m further)
  ]
]
