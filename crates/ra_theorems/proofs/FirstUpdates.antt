-- Lemmas on causal records: the updates of a replica that were delivered to another replica, or that a label sees, are
-- its first ones.
use Rattle.std.proofs.Common.{◌≡◌, ℕ, ◌+◌, ◌≤◌, Bool, true, false, eqb, [], ◌∷◌, refl, sym, ap, ◌∙◌, subst, inl, inr, arith}
use Rattle.std.specs.Prelude.{◌⊎◌, ◌==◌, ◌&&◌, ◌||◌, nat_lt}
use Rattle.std.proofs.lemmas.Bool.{false≢true, cases_lt, cases_eq, cases_Bool, lt-ltb, le-ltb, ltb-true, ltb-false}
use Rattle.std.proofs.Math.Bool.{or_comm}
use Rattle.std.proofs.lemmas.Bool.{eq-eqb, ne_eqb, eqb-true, cond-true, cond-false, or_left, and_parts, and_from}
use Rattle.std.proofs.lemmas.Bool.{false_from_ne_true}
use Rattle.ra_labels.specs.declared.command.Command.TheVariants.{Operate, Deliver, Join, Verdict}
use Rattle.ra_labels.specs.Records.{Records, label_count}
use Rattle.ra_labels.specs.Visibility.{is_update, is_update_at, has_delivered, sees, IsCausal}
use Rattle.ra_labels.specs.Places.{issuer_of, updates_issued, issue_position}
use Rattle.ra_labels.specs.TheoremTerms.{IsUpdateOf, AreFirstUpdates}
use Rattle.ra_labels.specs.HistorySoFar.{NextOperation, next_operation, operate}
use Rattle.ra_theorems.proofs.SeenLabels.{is_update_at-below, had_update, sees_earlier}
use Rattle.ra_theorems.proofs.Updates.{newest_or_older, updates-more, place-older, place-here, place-below, place-only, place-there, had-own, sees-own}

-- without labels, the first 0 updates are the ones that pass
none_first : (replica : ℕ) (test : ℕ → Bool) → AreFirstUpdates [] replica 0 test
none_first replica test = (omega arith, λ n is. absurd (false≢true is.0))

-- a test that agrees on the replica's updates has the same first updates
same_first : (records : Records) (replica count : ℕ) (test other : ℕ → Bool)
    → ((n : ℕ) → IsUpdateOf records replica n → other n ≡ test n) → AreFirstUpdates records replica count test
    → AreFirstUpdates records replica count other
same_first records replica count test other same first = (first.0, λ n is. same n is ∙ first.1 n is)

-- a new operation that does not pass leaves the first updates unchanged
later_first : (before : Records) (next : NextOperation) (replica count : ℕ) (test : ℕ → Bool)
    → test (label_count before) ≡ false → AreFirstUpdates before replica count test
    → AreFirstUpdates (operate next ∷ before) replica count test
later_first before next replica count test fails first = (
  omega (arith, first.0, updates-more before next.by replica next.op next.clock),
  (λ n is. elim (newest_or_older before next replica n is) [
    | inl new ↦
        ap test new.0 ∙ fails
        ∙ sym (le-ltb (issue_position (operate next ∷ before) n) count
        (omega (arith, first.0, place-here before next replica n new)))
    | inr old ↦ first.1 n old.1 ∙ ap (λ at. nat_lt at count) (sym (place-older before next n old.0))
  ]),
)

-- all updates that a replica issued count as delivered to it
own_first : (records : Records) (replica : ℕ)
    → AreFirstUpdates records replica (updates_issued records replica) (has_delivered records replica)
own_first records replica = (
  omega arith,
  (λ n is. had-own records replica n is
      ∙ sym (lt-ltb (issue_position records n) (updates_issued records replica) (place-below records replica n is))),
)

-- the next label has not been delivered to any replica, nor does any label see it
pub had-next : (before : Records) (replica : ℕ) → has_delivered before replica (label_count before) ≡ false
had-next before replica = false_from_ne_true (has_delivered before replica (label_count before)) (λ had_it.
    let below = is_update_at-below before (label_count before)
    (had_update before replica (label_count before) had_it) in
    absurd (omega (arith, below)))

pub sees-next : (before : Records) (n : ℕ) → sees before n (label_count before) ≡ false
sees-next before n = false_from_ne_true (sees before n (label_count before)) (λ seen.
    let below = is_update_at-below before (label_count before) (sees_earlier before n (label_count before) seen).1 in
    absurd (omega (arith, below)))

-- a disjunct that is never true changes nothing
or_not : (x y : Bool) → (x ≡ true → ⊥) → (x || y) ≡ y
or_not true y never = absurd (never refl)
or_not false y never = refl

-- an operation delivers no update of another replica
had-operation : (before : Records) (next : NextOperation) (replica of n : ℕ) → (replica ≡ of → ⊥)
    → IsUpdateOf (operate next ∷ before) of n
    → has_delivered (operate next ∷ before) replica n ≡ has_delivered before replica n
had-operation before next replica of n other is =
    or_not (next.by == replica && n == label_count before && is_update next.op) (has_delivered before replica n) (λ own.
    let place = and_parts (next.by == replica) (n == label_count before)
    (and_parts (next.by == replica && n == label_count before) (is_update next.op) own).0 in
    elim (newest_or_older before next of n is) [
      | inl new ↦ other (sym (eqb-true next.by replica place.0) ∙ new.2)
      | inr old ↦ absurd (omega (arith, old.0, eqb-true n (label_count before) place.1))
    ])

-- nor does a delivery of another label, or to another replica
had-delivery : (before : Records) (to label replica of n : ℕ) → ((to ≡ replica) × IsUpdateOf before of label → ⊥)
    → IsUpdateOf before of n → has_delivered (Deliver to label ∷ before) replica n ≡ has_delivered before replica n
had-delivery before to label replica of n other is =
    or_not (to == replica && n == label && is_update_at before n) (has_delivered before replica n) (λ got.
    let place = and_parts (to == replica) (n == label)
    (and_parts (to == replica && n == label) (is_update_at before n) got).0 in
    other (eqb-true to replica place.0, subst (λ m. IsUpdateOf before of m) (eqb-true n label place.1) is))

-- a causal delivery delivers the next update of its issuer
next_delivered : (before : Records) (to label of count : ℕ) → IsCausal (Deliver to label ∷ before)
    → IsUpdateOf before of label → AreFirstUpdates before of count (has_delivered before to) → issue_position before label ≡ count
next_delivered before to label of count causal is first =
    let above = ltb-false (issue_position before label) count (sym (first.1 label is) ∙ causal.0) in
    elim (cases_lt count (issue_position before label)) [
      | inl below ↦
          let missed = place-there before of count (omega (arith, below, place-below before of label is)) in
          let seen = sees-own before of label missed.0 is missed.1 (omega (arith, below, missed.2)) in
          let passes : nat_lt (issue_position before missed.0) count ≡ true = sym (first.1 missed.0 missed.1)
          ∙ causal.1 missed.0 seen in
          absurd (omega (arith, missed.2, ltb-true (issue_position before missed.0) count passes))
      | inr within ↦ omega (arith, above, within)
    ]

-- for a number other than `count`, being below `count` and being below `count + 1` are the same
lt-next : (at count : ℕ) → (at ≡ count → ⊥) → nat_lt at count ≡ nat_lt at (count + 1)
lt-next at count other = elim (cases_lt at count) [
  | inl below ↦ lt-ltb at count below ∙ sym (lt-ltb at (count + 1) (omega (arith, below)))
  | inr above ↦
      let past : count + 1 ≤ at =
      elim (cases_eq at count) [ inl same ↦ absurd (other same) | inr more ↦ omega (arith, above, more) ] in
      le-ltb at count above ∙ sym (le-ltb at (count + 1) past)
]

-- with the next update, the first updates are one more
delivered_first : (before : Records) (to label of count : ℕ) → IsCausal (Deliver to label ∷ before)
    → IsUpdateOf before of label → AreFirstUpdates before of count (has_delivered before to)
    → AreFirstUpdates (Deliver to label ∷ before) of (count + 1) (has_delivered (Deliver to label ∷ before) to)
delivered_first before to label of count causal is first =
    let next = next_delivered before to label of count causal is first in (
      omega (arith, next, place-below before of label is),
      (λ n also. elim (cases_eq n label) [
        | inl same ↦
            let place = and_from (to == to) (n == label) (eq-eqb to to refl) (eq-eqb n label same) in
            let got = and_from (to == to && n == label) (is_update_at before n) place also.0 in
            let at : issue_position before n ≡ count = ap (issue_position before) same ∙ next in
            or_left _ (has_delivered before to n) got ∙ sym (lt-ltb (issue_position before n) (count + 1) (omega (arith, at)))
        | inr other ↦
            or_not (to == to && n == label && is_update_at before n) (has_delivered before to n) (λ got.
            other (eqb-true n label
            (and_parts (to == to) (n == label)
            (and_parts (to == to && n == label) (is_update_at before n) got).0).1))
            ∙ first.1 n also
            ∙ lt-next (issue_position before n) count (λ at. other (place-only before of n label also is (at ∙ sym next)))
      ]),
    )

-- decides whether the delivery to this replica is of an update of the given issuer
is_its : (before : Records) (to label replica of : ℕ) → ((to ≡ replica) × IsUpdateOf before of label)
    ⊎ ((to ≡ replica) × IsUpdateOf before of label → ⊥)
is_its before to label replica of = elim (cases_eq to replica) [
  | inr other ↦ inr (λ is. other is.0)
  | inl same ↦ elim (cases_Bool (is_update_at before label)) [
    | inr query ↦ inr (λ is. false≢true (sym query ∙ is.1.0))
    | inl update ↦ elim (cases_eq (issuer_of before label) of) [
      | inr foreign ↦ inr (λ is. foreign is.1.1)
      | inl issued ↦ inl (same, (update, issued))
    ]
  ]
]

-- the updates below either of two counts are those below the greater one
or_within : (at a b : ℕ) → a ≤ b → (nat_lt at a || nat_lt at b) ≡ nat_lt at b
or_within at a b within = elim (cases_lt at a) [
  | inl below ↦
      or_left (nat_lt at a) (nat_lt at b) (lt-ltb at a below) ∙ sym (lt-ltb at b (omega (arith, below, within)))
  | inr above ↦ ap (λ p. p || nat_lt at b) (le-ltb at a above)
]

or_beyond : (at a b : ℕ) → b ≤ a → (nat_lt at a || nat_lt at b) ≡ nat_lt at a
or_beyond at a b within = or_comm (nat_lt at a) (nat_lt at b) ∙ or_within at b a within

either_first : (records : Records) (of : ℕ) (test other : ℕ → Bool)
    → ((count : ℕ) × AreFirstUpdates records of count test) → ((count : ℕ) × AreFirstUpdates records of count other)
    → (count : ℕ) × AreFirstUpdates records of count (λ n. test n || other n)
either_first records of test other first second = elim (cases_lt first.0 second.0) [
  | inl less ↦ (
    second.0,
    (
      second.1.0,
      λ n is. ap (λ b. b || other n) (first.1.1 n is)
          ∙ ap (λ b. nat_lt (issue_position records n) first.0 || b) (second.1.1 n is)
          ∙ or_within (issue_position records n) first.0 second.0 (omega (arith, less)),
    ),
  )
  | inr more ↦ (
    first.0,
    (
      first.1.0,
      λ n is. ap (λ b. b || other n) (first.1.1 n is)
          ∙ ap (λ b. nat_lt (issue_position records n) first.0 || b) (second.1.1 n is)
          ∙ or_beyond (issue_position records n) first.0 second.0 more,
    ),
  )
]

-- for any issuer, given the statement for all issuers but the replica itself
any_first : (records : Records) (replica of : ℕ)
    → ((replica ≡ of → ⊥) → (count : ℕ) × AreFirstUpdates records of count (has_delivered records replica))
    → (count : ℕ) × AreFirstUpdates records of count (has_delivered records replica)
any_first records replica of others = elim (cases_eq replica of) [
  | inl same ↦ (
    updates_issued records of,
    subst (λ r. AreFirstUpdates records of (updates_issued records of) (has_delivered records r)) (sym same) (own_first records of),
  )
  | inr other ↦ others other
]

-- the theorem of counts, for the updates of another replica
others_first : (records : Records) → IsCausal records → (replica of : ℕ) → (replica ≡ of → ⊥)
    → (count : ℕ) × AreFirstUpdates records of count (has_delivered records replica)
others_first [] causal replica of other = (0, none_first of (has_delivered [] replica))
others_first (Operate by op clock ∷ before) causal replica of other =
    let rest = others_first before causal replica of other in (
      rest.0,
      same_first (Operate by op clock ∷ before) of rest.0 (has_delivered before replica)
          (has_delivered (Operate by op clock ∷ before) replica)
          (λ n is. had-operation before (next_operation by op clock) replica of n other is)
          (later_first before (next_operation by op clock) of rest.0 (has_delivered before replica) (had-next before replica) rest.1),
    )
others_first (Deliver to label ∷ before) causal replica of other =
    let rest = others_first before causal.2 replica of other in
    elim (is_its before to label replica of) [
      | inl its ↦ (
        rest.0 + 1,
        subst (λ r. AreFirstUpdates (Deliver to label ∷ before) of (rest.0 + 1) (has_delivered (Deliver to label ∷ before) r))
            its.0
            (delivered_first before to label of rest.0 causal its.1
            (subst (λ r. AreFirstUpdates before of rest.0 (has_delivered before r)) (sym its.0) rest.1)),
      )
      | inr another ↦ (rest.0, (rest.1.0, λ n is. had-delivery before to label replica of n another is ∙ rest.1.1 n is))
    ]
others_first (Join joined from ∷ before) causal replica of other = elim (cases_eq joined replica) [
  | inl same ↦
      let both = either_first before of (has_delivered before from) (has_delivered before replica) (any_first before from of (others_first before causal from of))
      (others_first before causal replica of other) in (
        both.0,
        (
          both.1.0,
          λ n is. ap (λ b. b && has_delivered before from n || has_delivered before replica n) (eq-eqb joined replica same)
              ∙ both.1.1 n is,
        ),
      )
  | inr new ↦
      let rest = others_first before causal replica of other in (
        rest.0,
        (
          rest.1.0,
          λ n is. ap (λ b. b && has_delivered before from n || has_delivered before replica n) (ne_eqb joined replica new)
              ∙ rest.1.1 n is,
        ),
      )
]
others_first (Verdict ∷ before) causal replica of other = others_first before causal replica of other

pub had-first : (records : Records) → IsCausal records → (replica of : ℕ)
    → (count : ℕ) × AreFirstUpdates records of count (has_delivered records replica)
had-first records causal replica of = any_first records replica of (others_first records causal replica of)

-- and for what a label sees
pub sees-first : (records : Records) → IsCausal records → (n of : ℕ)
    → (count : ℕ) × AreFirstUpdates records of count (sees records n)
sees-first [] causal n of = (0, none_first of (sees [] n))
sees-first (Operate by op clock ∷ before) causal n of = elim (cases_Bool (eqb n (label_count before))) [
  | inl newest ↦
      let rest = had-first before causal by of in (
        rest.0,
        same_first (Operate by op clock ∷ before) of rest.0 (has_delivered before by) (sees (Operate by op clock ∷ before) n)
            (λ m is. cond-true (eqb n (label_count before)) (has_delivered before by m) (sees before n m) newest)
            (later_first before (next_operation by op clock) of rest.0 (has_delivered before by) (had-next before by) rest.1),
      )
  | inr older ↦
      let rest = sees-first before causal n of in (
        rest.0,
        same_first (Operate by op clock ∷ before) of rest.0 (sees before n) (sees (Operate by op clock ∷ before) n)
            (λ m is. cond-false (eqb n (label_count before)) (has_delivered before by m) (sees before n m) older)
            (later_first before (next_operation by op clock) of rest.0 (sees before n) (sees-next before n) rest.1),
      )
]
sees-first (Deliver to label ∷ before) causal n of = sees-first before causal.2 n of
sees-first (_ ∷ before) causal n of = sees-first before causal n of
