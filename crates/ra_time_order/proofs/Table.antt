-- Lemmas on the greatest stamps of each replica after one more label.
use Rattle.std.proofs.Common.{◌≡◌, ℕ, ◌+◌, ◌-◌, ◌<◌, ◌≤◌, Bool, true, false, List, [], ◌∷◌, length, Option, Some, None, refl, sym, ap, ◌∙◌, subst, inl, inr, arith, length-append}
use Rattle.std.specs.Prelude.{◌⊎◌, ◌==◌, ◌&&◌, Contains}
use Rattle.std.specs.Option.{option_map_or}
use Rattle.std.proofs.lemmas.Bool.{true≢false, false≢true, cases_eq, cases_lt, cases_Bool, eq-eqb, eqb-true, ne_eqb, cond-true, cond-false, and_from, and_parts, false_from_ne_true}
use Rattle.std.proofs.lemmas.List.{length-set, get_or-set_same, get_or-set_other, get_or_push, take-append-le, take_all}
use Rattle.std.proofs.lemmas.List.Elements.{All-contains}
use Rattle.ra_labels.specs.declared.label.Stamp.{Stamp}
use Rattle.ra_labels.specs.declared.label.Label.{Label}
use Rattle.ra_labels.specs.NamedOrder.{lowest_rank, greater_of}
use Rattle.ra_labels.specs.Places.{updates_issued, issue_position}
use Rattle.ra_labels.specs.Records.{Records, label_count, labels_of}
use Rattle.ra_labels.specs.Visibility.{is_update}
use Rattle.ra_labels.proofs.Counted.{numbers_below_count}
use Rattle.ra_labels.specs.HistorySoFar.{NextOperation, operate, label_of}
use Rattle.ra_labels.proofs.Members.{head_or_behind, behind_head}
use Rattle.ra_time_order.specs.RunningMaximum.{last_of, greatest_among, with_stamp}
use Rattle.ra_time_order.specs.Stamps.{AtMost, stamps_at, IsAmong, AreGreatestOf, stamps_with}
use Rattle.ra_time_order.proofs.Ranks.{at_most_itself, at_most_through, greater_above, greater_is_one}

-- the greatest of all stamps, with one more
abbrev next_of : List Stamp → Option Stamp → Stamp
next_of row own = option_map_or (greater_of (last_of row)) own (last_of row)

among_before : (row : List Stamp) (own : Option Stamp) (k : ℕ) → k ≤ length row
    → greatest_among (with_stamp row own) k ≡ greatest_among row k
among_before row own k few = ap last_of (take-append-le k row (next_of row own ∷ []) few)

among_all : (row : List Stamp) (k : ℕ) → length row ≤ k → greatest_among row k ≡ last_of row
among_all row k many = ap last_of (take_all k row many)

among_with : (row : List Stamp) (own : Option Stamp) (k : ℕ) → length row < k
    → greatest_among (with_stamp row own) k ≡ next_of row own
among_with row own k many =
    let long = length-append row (next_of row own ∷ []) in
    among_all (with_stamp row own) k (omega (arith, long))
    ∙ get_or_push row (next_of row own) lowest_rank (length (with_stamp row own) - 1) (omega (arith, long))

next_above : (row : List Stamp) (own : Option Stamp) → AtMost (last_of row) (next_of row own)
next_above row None = at_most_itself (last_of row)
next_above row (Some stamp) = (greater_above (last_of row) stamp).0

-- another stamp decreases no maximum
row_above : (row : List Stamp) (own : Option Stamp) (k : ℕ)
    → AtMost (greatest_among row k) (greatest_among (with_stamp row own) k)
row_above row own k = elim (cases_lt (length row) k) [
  | inl many ↦
      subst (AtMost (greatest_among row k)) (sym (among_with row own k many))
      (subst (λ s. AtMost s (next_of row own)) (sym (among_all row k (omega arith))) (next_above row own))
  | inr few ↦
      subst (AtMost (greatest_among row k)) (sym (among_before row own k few)) (at_most_itself (greatest_among row k))
]

-- and is at most the maximum
row_own : (row : List Stamp) (own : Option Stamp) (k : ℕ) (t : Stamp) → own ≡ Some t → length row < k
    → AtMost t (greatest_among (with_stamp row own) k)
row_own row None k t is many = absurd (cc is)
row_own row (Some stamp) k t is many =
    let same : stamp ≡ t = cc is in
    subst (AtMost t) (sym (among_with row (Some stamp) k many))
    (subst (λ s. AtMost s (greater_of (last_of row) stamp)) same (greater_above (last_of row) stamp).1)

grows_at_end : (row : List Stamp) (own : Option Stamp) (k : ℕ) → length row < k
    → (greatest_among (with_stamp row own) k ≡ greatest_among row k)
    ⊎ ((length row < k) × (own ≡ Some (greatest_among (with_stamp row own) k)))
grows_at_end row None k many = inl (among_with row None k many ∙ sym (among_all row k (omega arith)))
grows_at_end row (Some stamp) k many = elim (greater_is_one (last_of row) stamp) [
  | inl older ↦ inl (among_with row (Some stamp) k many ∙ older ∙ sym (among_all row k (omega arith)))
  | inr newer ↦ inr (many, ap Some (sym (among_with row (Some stamp) k many ∙ newer)))
]

-- the maximum is the previous one, or the new stamp
row_grows : (row : List Stamp) (own : Option Stamp) (k : ℕ)
    → (greatest_among (with_stamp row own) k ≡ greatest_among row k)
    ⊎ ((length row < k) × (own ≡ Some (greatest_among (with_stamp row own) k)))
row_grows row own k = elim (cases_lt (length row) k) [
  | inl many ↦ grows_at_end row own k many
  | inr few ↦ inl (among_before row own k few)
]

module _ (records : Records) (next : NextOperation) where
  abbrev now : Records
  now = operate next ∷ records

  abbrev x : Label
  x = label_of records next

  -- the position of an earlier label, and of the new one
  pub place_before : (l : Label) → Contains (labels_of records) l → issue_position now l.number ≡ issue_position records l.number
  place_before l found =
      let below = All-contains (λ m. m.number < label_count records) (labels_of records) l (numbers_below_count records)
      found in
      cond-false (l.number == label_count records) (updates_issued records next.by) (issue_position records l.number)
      (ne_eqb l.number (label_count records) (λ e. omega (arith, e, below)))

  place_new : issue_position now (label_count records) ≡ updates_issued records next.by
  place_new =
      cond-true (label_count records == label_count records) (updates_issued records next.by)
      (issue_position records (label_count records)) (eq-eqb (label_count records) (label_count records) refl)

  -- the labels among the first updates
  among_older : (q k : ℕ) (l : Label) → Contains (labels_of records) l → IsAmong now q k l → IsAmong records q k l
  among_older q k l found among = (found, among.1, among.2, omega (arith, among.3, place_before l found))

  among_still : (q k : ℕ) (l : Label) → IsAmong records q k l → IsAmong now q k l
  among_still q k l among =
      (behind_head x (labels_of records) l among.0, among.1, among.2, omega (arith, among.3, place_before l among.0))

  among_newest : (q k : ℕ) (l : Label) → x ≡ l → IsAmong now q k l
      → (is_update next.op ≡ true) × (next.by ≡ q) × (updates_issued records next.by < k)
  among_newest q k l is among =
      let number : l.number ≡ label_count records = sym (ap (λ (m : Label). m.number) is) in (
        ap (λ (m : Label). is_update m.op) is ∙ among.1,
        ap (λ (m : Label). m.replica) is ∙ among.2,
        omega (arith, among.3, ap (issue_position now) number, place_new),
      )

  -- the number of updates of the replica, if the label is one of them or not
  updates_now : (q : ℕ) → next.by ≡ q → is_update next.op ≡ true → updates_issued now q ≡ updates_issued records q + 1
  updates_now q same is =
      cond-true (next.by == q && is_update next.op) (updates_issued records q + 1) (updates_issued records q)
      (and_from (next.by == q) (is_update next.op) (eq-eqb next.by q same) is)

  updates_same : (q : ℕ) → (next.by ≡ q → is_update next.op ≡ true → ⊥) → updates_issued now q ≡ updates_issued records q
  updates_same q not_own =
      cond-false (next.by == q && is_update next.op) (updates_issued records q + 1) (updates_issued records q)
      (false_from_ne_true (next.by == q && is_update next.op)
      (λ both. let parts = and_parts (next.by == q) (is_update next.op) both in
      not_own (eqb-true next.by q parts.0) parts.1))

  module _ (stamps : List (List Stamp)) (initial_replicas : ℕ) (are : AreGreatestOf stamps initial_replicas records)
      (known : next.by < length stamps) where
    abbrev with_it : List (List Stamp)
    with_it = stamps_with stamps next.by (is_update next.op) x.stamp

    length_with : (update : Bool) → length (stamps_with stamps next.by update x.stamp) ≡ length stamps
    length_with true = length-set stamps next.by (with_stamp (stamps_at stamps next.by) x.stamp)
    length_with false = refl

    -- the replica's stamps have one more, and the others are unchanged
    own_with : (q : ℕ) (update : Bool) → next.by ≡ q → update ≡ true
        → stamps_at (stamps_with stamps next.by update x.stamp) q ≡ with_stamp (stamps_at stamps q) x.stamp
    own_with q true same is =
        ap (stamps_at (stamps_with stamps next.by true x.stamp)) (sym same)
        ∙ get_or-set_same stamps next.by (with_stamp (stamps_at stamps next.by) x.stamp) [] known
        ∙ ap (λ p. with_stamp (stamps_at stamps p) x.stamp) same
    own_with q false same is = absurd (false≢true is)

    else_with : (q : ℕ) (update : Bool) → (next.by ≡ q → update ≡ true → ⊥)
        → stamps_at (stamps_with stamps next.by update x.stamp) q ≡ stamps_at stamps q
    else_with q true not_own =
        get_or-set_other stamps next.by q (with_stamp (stamps_at stamps next.by) x.stamp) [] (λ e. not_own (sym e) refl)
    else_with q false not_own = refl

    -- by cases: the label is an update of the replica or not
    own_or_not : (q : ℕ) → ((next.by ≡ q) × (is_update next.op ≡ true)) ⊎ (next.by ≡ q → is_update next.op ≡ true → ⊥)
    own_or_not q = elim (cases_eq next.by q) [
      | inl same ↦ elim (cases_Bool (is_update next.op)) [
        | inl is ↦ inl (same, is)
        | inr none ↦ inr (λ _ is. true≢false (sym is ∙ none))
      ]
      | inr other ↦ inr (λ same _. other same)
    ]

    updates_with : (q : ℕ) → q < length with_it → length (stamps_at with_it q) ≡ updates_issued now q
    updates_with q there =
        let old : q < length stamps = omega (arith, there, length_with (is_update next.op)) in
        elim (own_or_not q) [
          | inl own ↦
              ap (λ row. length row) (own_with q (is_update next.op) own.0 own.1)
              ∙ length-append (stamps_at stamps q) (next_of (stamps_at stamps q) x.stamp ∷ [])
              ∙ ap (λ n. n + 1) (are.updates q old)
              ∙ sym (updates_now q own.0 own.1)
          | inr other ↦
              ap (λ row. length row) (else_with q (is_update next.op) other) ∙ are.updates q old
              ∙ sym (updates_same q other)
        ]

    above_with : (q k : ℕ) (label : Label) (stamp : Stamp) → q < length with_it → IsAmong now q k label
        → label.stamp ≡ Some stamp → AtMost stamp (greatest_among (stamps_at with_it q) k)
    above_with q k label stamp there among stamped =
        let old : q < length stamps = omega (arith, there, length_with (is_update next.op)) in
        let row = stamps_at stamps q in
        elim (head_or_behind x (labels_of records) label among.0) [
          | inl newest ↦
              let is = among_newest q k label newest among in
              subst (λ r. AtMost stamp (greatest_among r k)) (sym (own_with q (is_update next.op) is.1 is.0))
              (row_own row x.stamp k stamp (ap (λ (m : Label). m.stamp) newest ∙ stamped)
              (omega (arith, is.2, are.updates q old, ap (updates_issued records) is.1)))
          | inr older ↦
              let before = are.above q k label stamp old (among_older q k label older among) stamped in
              elim (own_or_not q) [
                | inl own ↦
                    subst (λ r. AtMost stamp (greatest_among r k)) (sym (own_with q (is_update next.op) own.0 own.1))
                    (at_most_through stamp (greatest_among row k) (greatest_among (with_stamp row x.stamp) k) before
                    (row_above row x.stamp k))
                | inr other ↦
                    subst (λ r. AtMost stamp (greatest_among r k)) (sym (else_with q (is_update next.op) other)) before
              ]
        ]

    abbrev IsOwnAmong : ℕ → ℕ → Stamp → Type 0
    IsOwnAmong q k s = (s ≡ lowest_rank) ⊎ ((label : Label) × IsAmong now q k label × (label.stamp ≡ Some s))

    own_still : (q k : ℕ) (s : Stamp) → (s ≡ lowest_rank)
        ⊎ ((label : Label) × IsAmong records q k label × (label.stamp ≡ Some s)) → IsOwnAmong q k s
    own_still q k s (inl lowest) = inl lowest
    own_still q k s (inr found) = inr (found.0, among_still q k found.0 found.1, found.2)

    kept_with : (q k : ℕ) → q < length with_it → IsOwnAmong q k (greatest_among (stamps_at with_it q) k)
    kept_with q k there =
        let old : q < length stamps = omega (arith, there, length_with (is_update next.op)) in
        let row = stamps_at stamps q in
        elim (own_or_not q) [
          | inl own ↦
              subst (λ r. IsOwnAmong q k (greatest_among r k)) (sym (own_with q (is_update next.op) own.0 own.1))
              (elim (row_grows row x.stamp k) [
                | inl same ↦ subst (IsOwnAmong q k) (sym same) (own_still q k (greatest_among row k) (are.own q k old))
                | inr new ↦
                    inr (
                      x,
                      (
                        (0, omega arith, refl),
                        own.1,
                        own.0,
                        omega
                            (arith, new.0, are.updates q old, place_new, ap (updates_issued records) own.0),
                      ),
                      new.1,
                    )
              ])
          | inr other ↦
              subst (λ r. IsOwnAmong q k (greatest_among r k)) (sym (else_with q (is_update next.op) other))
              (own_still q k (greatest_among row k) (are.own q k old))
        ]

    known_with : (label : Label) → Contains (labels_of now) label → label.replica < length with_it
    known_with label found = elim (head_or_behind x (labels_of records) label found) [
      | inl newest ↦ omega (arith, known, ap (λ (m : Label). m.replica) newest, length_with (is_update next.op))
      | inr older ↦ omega (arith, are.known label older, length_with (is_update next.op))
    ]

    pub greatest_with_label : AreGreatestOf with_it initial_replicas now
    greatest_with_label = record {
      replicas = omega (arith, are.replicas, length_with (is_update next.op));
      places = omega (arith, are.places, length_with (is_update next.op));
      known = known_with;
      updates = updates_with;
      above = above_with;
      own = kept_with;
    }
