-- Lemmas on orders in which each label comes after the newest updates that it sees and the previous label of its replica.
use Rattle.std.proofs.Common.{◌≡◌, ℕ, zero, suc, ◌+◌, ◌<◌, true, List, Option, Some, None, refl, sym, ◌∙◌, subst, inl, inr, arith}
use Rattle.std.proofs.lemmas.Bool.{cases_eq}
use Rattle.ra_labels.specs.Edges.{IsBefore}
use Rattle.ra_labels.specs.Records.{Records, label_count}
use Rattle.ra_labels.specs.Visibility.{sees}
use Rattle.ra_labels.specs.Places.{issuer_of}
use Rattle.ra_list_order.proofs.Cycles.{AreNew, transitive, new_from_once}
use Rattle.ra_theorems.proofs.TheoremIndex.{sees_earlier_updates-earlier}
use Rattle.ra_precedence.specs.Conditions.{HasEachBelow}
use Rattle.ra_precedence.specs.Positions.{ArePositions}
use Rattle.ra_some_order.specs.LabelOrders.{IsOrderOfLabels}
use Rattle.ra_visibility.specs.Newest.{IsNewestSeen}
use Rattle.ra_any_order.specs.Previous.{IsLastBelow}
use Rattle.ra_any_order.specs.Requirements.{IsFollowedBy}
use Rattle.ra_any_order.specs.LabelOrder.{comes_after}

-- holds if what label n sees and the earlier labels of its replica are followed by labels of the same replicas that
-- stand before it
pub record ComesInTurn (records : Records) (order : List ℕ) (n : ℕ) : Type 0 where
  pub seen : (k : ℕ) → sees records n k ≡ true → IsFollowedBy records order k n
  pub previous : (k : ℕ) → k < n → issuer_of records k ≡ issuer_of records n → IsFollowedBy records order k n

-- such an order has each label after all of them
module _ (records : Records) (order : List ℕ) (each : HasEachBelow (label_count records) order)
    (turn : (n : ℕ) → n < label_count records → ComesInTurn records order n) where
  new : AreNew order
  new = new_from_once order each.once

  replica_before : (bound m n : ℕ) → n < bound → m < n → n < label_count records
      → issuer_of records m ≡ issuer_of records n → IsBefore order m n
  replica_before zero m n within less below same = absurd (omega (arith, within))
  replica_before (suc bound) m n within less below same =
      let (k, later, earlier, issuer, before) = (turn n below).previous m less same in
      elim (cases_eq m k) [
        | inl is ↦ subst (λ j. IsBefore order j n) (sym is) before
        | inr other ↦
            transitive order m k n new
            (replica_before bound m k (omega (arith, within, earlier)) (omega (arith, later, other))
            (omega (arith, earlier, below)) issuer) before
      ]

  pub turn_order : IsOrderOfLabels records order
  turn_order = record {
    each = each;
    seen =
        λ n m below sees_it.
        let (k, later, earlier, issuer, before) = (turn n below).seen m sees_it in
        elim (cases_eq m k) [
          | inl is ↦ subst (λ j. IsBefore order j n) (sym is) before
          | inr other ↦
              transitive order m k n new
              (replica_before (k + 1) m k (omega arith) (omega (arith, later, other)) (omega (arith, earlier, below))
              issuer) before
        ];
    replicas = λ m n less below same. replica_before (n + 1) m n (omega arith) less below same;
  }

-- ---- one label, by the positions
module _ (records : Records) (order positions : List ℕ) (are : ArePositions order positions) (n : ℕ) where
  pub behind_newest : (of : ℕ) (newest : Option ℕ) → IsNewestSeen records n of newest
      → comes_after positions newest n ≡ true
      → (k : ℕ) → sees records n k ≡ true → issuer_of records k ≡ of → IsFollowedBy records order k n
  behind_newest of None none behind k seen issued = absurd (none k seen issued)
  behind_newest of (Some m) (seen_m, issued_m, latest) behind k seen issued = (
    m,
    latest k seen issued,
    sees_earlier_updates-earlier records n m seen_m,
    issued ∙ sym issued_m,
    (are m n).0 behind,
  )

  pub newest_behind : (of : ℕ) (newest : Option ℕ) → IsNewestSeen records n of newest
      → ((k : ℕ) → sees records n k ≡ true → IsBefore order k n) → comes_after positions newest n ≡ true
  newest_behind of None none before = refl
  newest_behind of (Some m) (seen_m, issued_m, latest) before = (are m n).1 (before m seen_m)

  pub behind_previous : (previous : Option ℕ) → IsLastBelow records n (issuer_of records n) previous
      → comes_after positions previous n ≡ true
      → (k : ℕ) → k < n → issuer_of records k ≡ issuer_of records n → IsFollowedBy records order k n
  behind_previous None none behind k less same = absurd (none k less same)
  behind_previous (Some m) (below, issued, latest) behind k less same =
      (m, latest k less same, below, same ∙ sym issued, (are m n).0 behind)

  pub previous_behind : (previous : Option ℕ) → IsLastBelow records n (issuer_of records n) previous
      → ((k : ℕ) → k < n → issuer_of records k ≡ issuer_of records n → IsBefore order k n)
      → comes_after positions previous n ≡ true
  previous_behind None none before = refl
  previous_behind (Some m) (below, issued, latest) before = (are m n).1 (before m below issued)
