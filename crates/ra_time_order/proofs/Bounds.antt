-- Lemmas on the labels that must precede a new one: their timestamps are at most the greatest stamp that the new one
-- sees.
use Rattle.std.proofs.Common.{◌≡◌, ℕ, ◌<◌, Bool, true, [], ◌∷◌, List, Option, Some, None, refl, sym, ap, ◌∙◌, subst, inl, inr, arith}
use Rattle.std.specs.Prelude.{◌==◌, ◌&&◌, nat_lt, Contains, filter, unwrap_or}
use Rattle.std.proofs.lemmas.Bool.{or_cases, or_left, or_right, and_parts, and_from, eqb-true, eq-eqb, ne_eqb, cond-true, cond-false}
use Rattle.std.proofs.lemmas.List.Elements.{All-contains}
use Rattle.ra_labels.specs.declared.label.Stamp.{Stamp}
use Rattle.ra_labels.specs.declared.label.Label.{Label}
use Rattle.ra_labels.specs.declared.command.Command.TheVariants.{Operate, Deliver, Join, Verdict}
use Rattle.ra_labels.specs.NamedOrder.{greatest_stamp, timestamp_of}
use Rattle.ra_labels.specs.Records.{Records, label_count, labels_of, next_label}
use Rattle.ra_labels.specs.Visibility.{has_delivered, sees, is_update, is_update_at, IsCausal}
use Rattle.ra_labels.proofs.Counted.{numbers_below_count}
use Rattle.ra_labels.specs.HistorySoFar.{NextOperation, operate, label_of}
use Rattle.ra_labels.proofs.Members.{head_or_behind, behind_head, kept-there, there-kept}
use Rattle.ra_theorems.proofs.TheoremIndex.{causal_delivery_transitive-delivered}
use Rattle.ra_visibility.specs.Order.{must_stand_before}
use Rattle.ra_time_order.specs.Stamps.{AtMost}
use Rattle.ra_time_order.proofs.Ranks.{lowest_at_most, IsGreatestOf, greatest_of}

-- a replica's own updates count as delivered to it
own_had : (records : Records) (l : Label) → Contains (labels_of records) l → is_update l.op ≡ true
    → has_delivered records l.replica l.number ≡ true
own_had [] l found is = absurd (omega (arith, found.1))
own_had (Operate by op clock ∷ before) l found is =
    let own = by == l.replica && l.number == label_count before && is_update op in
    elim (head_or_behind (next_label before by op clock) (labels_of before) l found) [
      | inl newest ↦
          let replica : by ≡ l.replica = ap (λ (m : Label). m.replica) newest in
          let number : l.number ≡ label_count before = sym (ap (λ (m : Label). m.number) newest) in
          or_left own (has_delivered before l.replica l.number)
          (and_from (by == l.replica && l.number == label_count before) (is_update op)
          (and_from (by == l.replica) (l.number == label_count before) (eq-eqb by l.replica replica)
          (eq-eqb l.number (label_count before) number))
          (ap (λ (m : Label). is_update m.op) newest ∙ is))
      | inr older ↦ or_right own (has_delivered before l.replica l.number) (own_had before l older is)
    ]
own_had (Deliver to label ∷ before) l found is =
    or_right (to == l.replica && l.number == label && is_update_at before l.number) (has_delivered before l.replica l.number)
    (own_had before l found is)
own_had (Join joined from ∷ before) l found is =
    or_right (joined == l.replica && has_delivered before from l.number) (has_delivered before l.replica l.number)
    (own_had before l found is)
own_had (Verdict ∷ before) l found is = own_had before l found is

-- what a replica's labels see was delivered to it
seen_had : (records : Records) (m : Label) (k : ℕ) → Contains (labels_of records) m → sees records m.number k ≡ true
    → has_delivered records m.replica k ≡ true
seen_had [] m k found is = absurd (omega (arith, found.1))
seen_had (Operate by op clock ∷ before) m k found is =
    let own = by == m.replica && k == label_count before && is_update op in
    elim (head_or_behind (next_label before by op clock) (labels_of before) m found) [
      | inl newest ↦
          let number : m.number ≡ label_count before = sym (ap (λ (l : Label). l.number) newest) in
          let known : has_delivered before by k ≡ true =
          sym (cond-true (m.number == label_count before) (has_delivered before by k) (sees before m.number k)
          (eq-eqb m.number (label_count before) number)) ∙ is in
          or_right own (has_delivered before m.replica k) (subst (λ r. has_delivered before r k ≡ true)
          (ap (λ (l : Label). l.replica) newest) known)
      | inr older ↦
          let below = All-contains (λ l. l.number < label_count before) (labels_of before) m
          (numbers_below_count before) older in
          let known : sees before m.number k ≡ true =
          sym (cond-false (m.number == label_count before) (has_delivered before by k) (sees before m.number k)
          (ne_eqb m.number (label_count before) (λ e. omega (arith, e, below)))) ∙ is in
          or_right own (has_delivered before m.replica k) (seen_had before m k older known)
    ]
seen_had (Deliver to label ∷ before) m k found is =
    or_right (to == m.replica && k == label && is_update_at before k) (has_delivered before m.replica k)
    (seen_had before m k found is)
seen_had (Join joined from ∷ before) m k found is =
    or_right (joined == m.replica && has_delivered before from k) (has_delivered before m.replica k) (seen_had before m k found is)
seen_had (Verdict ∷ before) m k found is = seen_had before m k found is

module _ (records : Records) (next : NextOperation) where
  abbrev now : Records
  now = operate next ∷ records

  abbrev x : Label
  x = label_of records next

  abbrev n : ℕ
  n = label_count records

  abbrev pub all_seen : List Label
  all_seen = filter (λ other. sees now n other.number) (labels_of now)

  sees_had : (m : ℕ) → sees now n m ≡ has_delivered records next.by m
  sees_had m = cond-true (n == n) (has_delivered records next.by m) (sees records n m) (eq-eqb n n refl)

  -- the labels that were delivered to the replica are among those that the new label sees
  had_seen : (l : Label) → Contains (labels_of records) l → has_delivered records next.by l.number ≡ true → Contains all_seen l
  had_seen l found is =
      kept-there (λ (other : Label). sees now n other.number) (labels_of now) l
      (behind_head x (labels_of records) l found)
      (sees_had l.number ∙ is)

  module _ (causal : IsCausal records) (stamped : (label : Label) (stamp : Stamp) → Contains (labels_of records) label
      → label.stamp ≡ Some stamp → is_update label.op ≡ true)
      (greatest : Stamp) (is : IsGreatestOf all_seen greatest) where
    -- an update that must precede the new label was delivered to the replica
    update_had : (m : Label) → Contains (labels_of records) m → must_stand_before now m x ≡ true → is_update m.op ≡ true
        → has_delivered records next.by m.number ≡ true
    update_had m found must update =
        elim (or_cases (sees now n m.number) (m.replica == next.by && nat_lt m.number n) must) [
          | inl seen ↦ sym (sees_had m.number) ∙ seen
          | inr earlier ↦
              let same = eqb-true m.replica next.by (and_parts (m.replica == next.by) (nat_lt m.number n) earlier).0 in
              subst (λ r. has_delivered records r m.number ≡ true) same (own_had records m found update)
        ]

    -- and so was what such a label sees
    through_had : (m : Label) (k : ℕ) → Contains (labels_of records) m → must_stand_before now m x ≡ true
        → sees records m.number k ≡ true → has_delivered records next.by k ≡ true
    through_had m k found must sees_k =
        elim (or_cases (sees now n m.number) (m.replica == next.by && nat_lt m.number n) must) [
          | inl seen ↦
              causal_delivery_transitive-delivered records causal next.by m.number k (sym (sees_had m.number) ∙ seen)
              sees_k
          | inr earlier ↦
              let same = eqb-true m.replica next.by (and_parts (m.replica == next.by) (nat_lt m.number n) earlier).0 in
              subst (λ r. has_delivered records r k ≡ true) same (seen_had records m k found sees_k)
        ]

    bounded_at : (m : Label) (own : Option Stamp) → m.stamp ≡ own → Contains (labels_of records) m
        → must_stand_before now m x ≡ true
        → AtMost
        (unwrap_or own (greatest_stamp (filter (λ other. sees records m.number other.number) (labels_of records))))
        greatest
    bounded_at m (Some stamp) has found must =
        is.above m stamp (had_seen m found (update_had m found must (stamped m stamp found has))) has
    bounded_at m None has found must =
        let seen_by : Label → Bool = λ other. sees records m.number other.number in
        let its = greatest_of (filter seen_by (labels_of records)) in
        elim (its.own) [
          | inl lowest ↦ subst (λ s. AtMost s greatest) (sym lowest) (lowest_at_most greatest)
          | inr one ↦
              let kept = there-kept seen_by (labels_of records) one.0 one.1 in
              is.above one.0 (greatest_stamp (filter seen_by (labels_of records)))
              (had_seen one.0 kept.0 (through_had m one.0.number found must kept.1)) one.2
        ]

    pub bounded : (m : Label) → Contains (labels_of records) m → must_stand_before now m x ≡ true
        → AtMost (timestamp_of records m) greatest
    bounded m found must = bounded_at m m.stamp refl found must
