-- Lemmas on the newest update of a replica that a label sees: the last one that its count covers.
use Rattle.std.proofs.Common.{◌≡◌, ℕ, suc, ◌<◌, ◌-◌, true, sym, ap, ◌∙◌, subst, inl, inr, arith}
use Rattle.std.specs.Prelude.{◌==◌, nat_lt, IfSome, Some, None}
use Rattle.std.proofs.lemmas.Bool.{cases_eq, cases_lt, cond-true, cond-false, eq-eqb, ne_eqb, and_parts, and_from, ltb-true, lt-ltb}
use Rattle.ra_labels.specs.Visibility.{sees}
use Rattle.ra_labels.specs.Places.{issuer_of}
use Rattle.ra_labels.specs.HistorySoFar.{History}
use Rattle.ra_theorems.proofs.TheoremIndex.{sees_earlier_updates-updates, delivered_are_updates-there}
use Rattle.ra_visibility.specs.Seen.{count_in}
use Rattle.ra_visibility.specs.Tracked.{Tracked, IsVisibilityOf, replicas_in, labels_in, row_at, seen_in, seen_count, sees_in}
use Rattle.ra_visibility.specs.Kept.{TrackedKept, issued_count, issued_at}
use Rattle.ra_visibility.specs.Newest.{newest_seen_in, IsNewestSeen}
use Rattle.ra_visibility.proofs.SeenCounts.{none_beyond}

pub issued_below : (t : Tracked) (past : History) → TrackedKept t → IsVisibilityOf t past → (label : ℕ)
    → label < labels_in t → issuer_of past.records label < replicas_in t
issued_below t past kept stands label there =
    subst (λ q. q < replicas_in t) (stands.issuer label there) (kept.row_replica label there)

-- only existing replicas have updates that a label sees
pub counted_replica : (t : Tracked) (n of : ℕ) → TrackedKept t → n < labels_in t → ¬ (seen_count t n of ≡ 0)
    → of < replicas_in t
counted_replica t n of kept there some = elim (cases_lt of (replicas_in t)) [
  | inl below ↦ below
  | inr beyond ↦ absurd (some (none_beyond t n of kept there (omega (arith, beyond))))
]

module _ (t : Tracked) (past : History) (kept : TrackedKept t) (stands : IsVisibilityOf t past) (n of : ℕ)
    (there : n < labels_in t) where
  -- what is seen of the replica is below the count
  below_count : (m : ℕ) → sees past.records n m ≡ true → issuer_of past.records m ≡ of
      → (m < labels_in t) × ((row_at t m).is_update ≡ true) × ((row_at t m).replica ≡ of)
      × ((row_at t m).place < seen_count t n of)
  below_count m seen issued =
      let m_there : m < labels_in t = subst (λ k. m < k) (sym stands.labels)
      (delivered_are_updates-there past.records m (sees_earlier_updates-updates past.records n m seen)) in
      let pair = and_parts (row_at t m).is_update (nat_lt (row_at t m).place (count_in (seen_in t n) (row_at t m).replica))
      (stands.sees n m there ∙ seen) in
      let replica = stands.issuer m m_there ∙ issued in (
        m_there,
        pair.0,
        replica,
        subst (λ q. (row_at t m).place < seen_count t n q) replica
            (ltb-true (row_at t m).place (seen_count t n (row_at t m).replica) pair.1),
      )

  none_newest : seen_count t n of ≡ 0 → IsNewestSeen past.records n of None
  none_newest none m seen issued =
      let (m_there, updates, replica, place) = below_count m seen issued in
      absurd (omega (arith, place, none))

  -- and the last one below the count is the newest
  last_newest : (last : ℕ) → seen_count t n of ≡ suc last
      → IsNewestSeen past.records n of (Some (issued_at t of last))
  last_newest last is =
      let below = counted_replica t n of kept there (λ none. absurd (omega (arith, is, none))) in
      let within = kept.row_seen n of there below in
      let last_below : last < issued_count t of = omega (arith, within, is) in
      let newest = issued_at t of last in
      let found = kept.issued_row of last below last_below in
      let place = found.place in
      let seen : sees_in t n newest ≡ true =
      and_from (row_at t newest).is_update (nat_lt (row_at t newest).place (count_in (seen_in t n) (row_at t newest).replica))
      found.update (lt-ltb (row_at t newest).place (count_in (seen_in t n) (row_at t newest).replica)
      (subst (λ q. (row_at t newest).place < seen_count t n q) (sym found.replica)
      (omega (arith, place, is)))) in (
        sym (stands.sees n newest there) ∙ seen,
        sym (stands.issuer newest found.there) ∙ found.replica,
        λ m m_seen issued.
            let (m_there, updates, replica, m_place) = below_count m m_seen issued in
            let (place_below, at_place) = kept.row_issued m m_there updates in
            let at : issued_at t of (row_at t m).place ≡ m =
            subst (λ q. issued_at t q (row_at t m).place ≡ m) replica at_place in
            elim (cases_eq (row_at t m).place last) [
              | inl same ↦
                  let here : m ≡ newest = sym at ∙ ap (issued_at t of) same in
                  omega (arith, here)
              | inr other ↦
                  let less = kept.issued_rise of (row_at t m).place last below (omega (arith, m_place, is, other))
                  last_below in
                  omega (arith, less, at)
            ],
      )

  pub newest_is : IsNewestSeen past.records n of (newest_seen_in t n of)
  newest_is =
      let count = seen_count t n of in
      let some = Some (issued_at t of (count - 1)) in
      elim (cases_eq count 0) [
        | inl none ↦ subst (IsNewestSeen past.records n of) (sym (cond-true (count == 0) None some (eq-eqb count 0 none)))
            (none_newest none)
        | inr other ↦ subst (IsNewestSeen past.records n of)
            (sym (cond-false (count == 0) None some (ne_eqb count 0 other)))
            (last_newest (count - 1) (omega (arith, other)))
      ]

pub newest_below : (t : Tracked) → TrackedKept t → (n of : ℕ) → n < labels_in t
    → IfSome (newest_seen_in t n of) (λ newest. newest < labels_in t)
newest_below t kept n of there =
    let count = seen_count t n of in
    let some = Some (issued_at t of (count - 1)) in
    elim (cases_eq count 0) [
      | inl none ↦ subst (λ o. IfSome o (λ newest. newest < labels_in t))
          (sym (cond-true (count == 0) None some (eq-eqb count 0 none))) tt
      | inr other ↦
          let below = counted_replica t n of kept there other in
          let within = kept.row_seen n of there below in
          subst (λ o. IfSome o (λ newest. newest < labels_in t))
          (sym (cond-false (count == 0) None some (ne_eqb count 0 other)))
          (kept.issued_row of (count - 1) below (omega (arith, within, other))).there
    ]
