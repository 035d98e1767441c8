-- Lemmas on the greatest stamp that a new label sees, found from the counts.
use Rattle.std.proofs.Common.{◌≡◌, ℕ, zero, suc, ◌<◌, ◌≤◌, true, false, List, ◌∷◌, length, Option, Some, refl, sym, ap, ◌∙◌, subst, inl, inr, arith}
use Rattle.std.specs.Prelude.{◌⊎◌, ◌&&◌, nat_lt, Contains, filter}
use Rattle.std.specs.Option.{option_map_or}
use Rattle.std.proofs.lemmas.Bool.{cases_lt, and_parts, and_from, ltb-true, lt-ltb}
use Rattle.std.proofs.lemmas.List.Elements.{All-contains}
use Rattle.ra_labels.specs.declared.label.Stamp.{Stamp}
use Rattle.ra_labels.specs.declared.label.Label.{Label}
use Rattle.ra_labels.specs.NamedOrder.{lowest_rank, greater_of, greatest_stamp}
use Rattle.ra_labels.specs.Places.{issue_position}
use Rattle.ra_labels.specs.Records.{Records, label_count, label_at, labels_of}
use Rattle.ra_labels.specs.Visibility.{sees, is_update}
use Rattle.ra_labels.proofs.Counted.{numbers_below_count}
use Rattle.ra_labels.specs.HistorySoFar.{NextOperation, operate, label_of}
use Rattle.ra_labels.proofs.Members.{head_or_behind, behind_head, kept-there, there-kept}
use Rattle.ra_theorems.proofs.TheoremIndex.{label_at_each_number-found, sees_earlier_updates-earlier}
use Rattle.ra_visibility.specs.Seen.{Seen, count_in}
use Rattle.ra_visibility.specs.Order.{IsSeenBy}
use Rattle.ra_time_order.specs.RunningMaximum.{greatest_among}
use Rattle.ra_time_order.specs.Stamps.{AtMost, stamps_at, IsAmong, AreGreatestOf, greatest_in}
use Rattle.ra_time_order.proofs.Ranks.{at_most_through, greater_above, greater_is_one, IsGreatestOf, one_greatest, greatest_of}
use Rattle.ra_time_order.proofs.Table.{place_before}

module _ (records : Records) (next : NextOperation) (seen : Seen)
    (sees_it : IsSeenBy (operate next ∷ records) (label_count records) seen) where
  abbrev now : Records
  now = operate next ∷ records

  abbrev n : ℕ
  n = label_count records

  abbrev count : ℕ → ℕ
  count q = count_in seen q

  number_below : (l : Label) → Contains (labels_of records) l → l.number < n
  number_below l found =
      All-contains (λ m. m.number < label_count records) (labels_of records) l (numbers_below_count records) found

  -- an earlier label is seen exactly if it is among the first updates of its replica
  seen_as : (l : Label) → Contains (labels_of records) l
      → sees now n l.number ≡ (is_update l.op && nat_lt (issue_position records l.number) (count l.replica))
  seen_as l found =
      let below = number_below l found in
      let there : label_at records l.number ≡ Some l = label_at_each_number-found records l found in
      let still : label_at now l.number ≡ Some l = label_at_each_number-found now l
      (behind_head (label_of records next) (labels_of records) l found) in
      sees_it.first l.number (omega (arith, below))
      ∙ ap (λ (o : Option Label). option_map_or (λ m. is_update m.op) o false && nat_lt (issue_position now l.number)
      (count (option_map_or (λ m. m.replica) o 0))) still
      ∙ ap (λ p. is_update l.op && nat_lt p (count l.replica)) (place_before records next l found)

  pub seen_among : (q : ℕ) (l : Label) → Contains (labels_of records) l → l.replica ≡ q → sees now n l.number ≡ true
      → IsAmong records q (count q) l
  seen_among q l found same is =
      let parts = and_parts (is_update l.op) (nat_lt (issue_position records l.number) (count l.replica))
      (sym (seen_as l found) ∙ is) in (
        found,
        parts.0,
        same,
        omega (
          arith,
          ltb-true (issue_position records l.number) (count l.replica) parts.1,
          ap count
              same,
        ),
      )

  among_seen : (q : ℕ) (l : Label) → IsAmong records q (count q) l → sees now n l.number ≡ true
  among_seen q l among =
      seen_as l among.0
      ∙ and_from (is_update l.op) (nat_lt (issue_position records l.number) (count l.replica)) among.1
      (lt-ltb (issue_position records l.number) (count l.replica) (omega (arith, among.3, ap count among.2)))

  -- the label sees only earlier labels
  pub seen_before : (l : Label) → Contains (labels_of now) l → sees now n l.number ≡ true
      → Contains (labels_of records) l
  seen_before l found is = elim (head_or_behind (label_of records next) (labels_of records) l found) [
    | inl newest ↦
        let earlier = sees_earlier_updates-earlier now n l.number is in
        absurd (omega (arith, earlier, ap (λ (m : Label). m.number) newest))
    | inr older ↦ older
  ]

  module _ (stamps : List (List Stamp)) (initial_replicas : ℕ) (are : AreGreatestOf stamps initial_replicas records) where
    -- the greatest stamp so far: of the first replicas
    record SoFar (q : ℕ) (s : Stamp) : Type 0 where
      above : (l : Label) (t : Stamp) → Contains (labels_of records) l → sees now n l.number ≡ true → l.replica < q
          → l.stamp ≡ Some t → AtMost t s
      own : (s ≡ lowest_rank) ⊎ ((l : Label) × Contains (labels_of records) l × (sees now n l.number ≡ true)
          × (l.stamp ≡ Some s))

    from_table : (q : ℕ) (s : Stamp) → (s ≡ lowest_rank) ⊎ ((l : Label) × IsAmong records q (count q) l
        × (l.stamp ≡ Some s))
        → (s ≡ lowest_rank) ⊎ ((l : Label) × Contains (labels_of records) l × (sees now n l.number ≡ true)
        × (l.stamp ≡ Some s))
    from_table q s (inl lowest) = inl lowest
    from_table q s (inr found) = inr (found.0, found.1.0, among_seen q found.0 found.1, found.2)

    so_far : (q : ℕ) → q ≤ length stamps → SoFar q (greatest_in stamps count q)
    so_far zero few = record { above = λ l t found is below stamped. absurd (omega arith); own = inl refl }
    so_far (suc q) few =
        let before = so_far q (omega arith) in
        let old = greatest_in stamps count q in
        let new = greatest_among (stamps_at stamps q) (count q) in
        let both = greater_above old new in
        record {
          above = λ l t found is below stamped. elim (cases_lt l.replica q) [
            | inl less ↦ at_most_through t old (greater_of old new) (before.above l t found is less stamped) both.0
            | inr more ↦
                let same : l.replica ≡ q = omega arith in
                at_most_through t new (greater_of old new) (are.above q (count q) l t (omega arith)
                (seen_among q l found same is) stamped) both.1
          ];
          own = elim (greater_is_one old new) [
            | inl older ↦
                subst (λ s. (s ≡ lowest_rank) ⊎ ((l : Label) × Contains (labels_of records)
                l × (sees now n l.number ≡ true) × (l.stamp ≡ Some s))) (sym older) before.own
            | inr newer ↦
                subst (λ s. (s ≡ lowest_rank) ⊎ ((l : Label) × Contains (labels_of records)
                l × (sees now n l.number ≡ true) × (l.stamp ≡ Some s))) (sym newer)
                (from_table q new (are.own q (count q) (omega arith)))
          ];
        }

    -- the greatest own stamp of the labels that the label sees
    pub greatest_seen : IsGreatestOf (filter (λ other. sees now n other.number) (labels_of now))
        (greatest_in stamps count (length stamps))
    greatest_seen =
        let all = so_far (length stamps) (omega arith) in
        record {
          above = λ l t found stamped.
              let kept = there-kept (λ other. sees now n other.number) (labels_of now) l found in
              let older = seen_before l kept.0 kept.1 in
              all.above l t older kept.1 (are.known l older) stamped;
          own = elim (all.own) [
            | inl lowest ↦ inl lowest
            | inr one ↦
                inr (
                  one.0,
                  kept-there (λ other. sees now n other.number) (labels_of now) one.0
                      (behind_head (label_of records next) (labels_of records) one.0 one.1) one.2,
                  one.3,
                )
          ];
        }

    pub greatest_is : greatest_stamp (filter (λ other. sees now n other.number) (labels_of now))
        ≡ greatest_in stamps count (length stamps)
    greatest_is =
        let these = filter (λ (other : Label). sees now n other.number) (labels_of now) in
        one_greatest these (greatest_stamp these) (greatest_in stamps count (length stamps)) (greatest_of these)
        greatest_seen
