-- Lemmas on the timestamp of a label: its own stamp, or else the greatest stamp that it sees.
use Rattle.std.proofs.Common.{◌≡◌, ℕ, zero, suc, ◌<◌, Bool, eqb, List, [], ◌∷◌, ◌++◌, filter, Option, Some, None, refl, sym, ap, ◌∙◌, subst, inl, inr, arith}
use Rattle.std.specs.Prelude.{◌⊎◌, Contains, unwrap_or, cond}
use Rattle.std.specs.Option.{option_map_or}
use Rattle.std.specs.Ordering.{is_lt}
use Rattle.std.proofs.lemmas.Bool.{cases_Bool, cases_order, cases_lt, cond-true, cond-false, cond_both, ne_eqb}
use Rattle.std.proofs.lemmas.Option.{none-some}
use Rattle.ra_labels.specs.declared.label.Stamp.{Stamp}
use Rattle.ra_labels.specs.declared.label.Label.{Label}
use Rattle.ra_labels.specs.declared.command.Command.TheVariants.{Operate}
use Rattle.ra_labels.specs.Records.{Records, label_count, labels_of}
use Rattle.ra_labels.specs.Visibility.{sees, has_delivered}
use Rattle.ra_labels.specs.NamedOrder.{lowest_rank, stamp_cmp, greater_of, greatest_stamp, timestamp_of}
use Rattle.ra_labels.specs.TheoremTerms.{IsStampBelow, SeesStamp}
use Rattle.ra_labels.specs.HistorySoFar.{NextOperation, next_operation, operate}
use Rattle.ra_labels.proofs.Members.{head_or_behind, kept-there, there-kept}
use Rattle.ra_labels.proofs.StampOrder.{below_tested, not_below_tested, not_below_itself, not_both_below}
use Rattle.ra_theorems.proofs.LabelNumbers.{label_count-append}
use Rattle.ra_theorems.proofs.FirstUpdates.{sees-next}

-- "not below" is transitive, stated on the clocks and replicas of three stamps
through : (a b c d e f : ℕ) → (((a < c) ⊎ ((a ≡ c) × (b < d))) → ⊥) → (((c < e) ⊎ ((c ≡ e) × (d < f))) → ⊥)
    → ((a < e) ⊎ ((a ≡ e) × (b < f))) → ⊥
through a b c d e f first second below = elim (cases_order a c) [
  | inr (inl less) ↦ first (inl less)
  | inr (inr more) ↦ elim below [
    | inl further ↦ second (inl (omega arith))
    | inr tie ↦ second (inl (omega (arith, tie.0)))
  ]
  | inl same ↦ elim (cases_lt b d) [
    | inl less ↦ first (inr (same, less))
    | inr more ↦ elim below [
      | inl further ↦ second (inl (omega arith))
      | inr tie ↦ second (inr (sym same ∙ tie.0, omega (arith, tie.1)))
    ]
  ]
]

not_below-through : (s t u : Stamp) → ¬ IsStampBelow s t → ¬ IsStampBelow t u → ¬ IsStampBelow s u
not_below-through s t u first second = through s.clock s.replica t.clock t.replica u.clock u.replica first second

-- the greater of two stamps is below neither, and is one of them
greater-left : (s t : Stamp) → ¬ IsStampBelow (greater_of s t) s
greater-left s t = cond_both (is_lt (stamp_cmp s t)) t s (λ u. ¬ IsStampBelow u s)
    (λ is below. not_both_below s t (below_tested s t is) below)
    (λ fails. not_below_itself s s refl)

greater-right : (s t : Stamp) → ¬ IsStampBelow (greater_of s t) t
greater-right s t = cond_both (is_lt (stamp_cmp s t)) t s (λ u. ¬ IsStampBelow u t)
    (λ is. not_below_itself t t refl)
    (λ fails. not_below_tested s t fails)

greater-one : (s t : Stamp) → (greater_of s t ≡ t) ⊎ ((greater_of s t ≡ s) × ¬ IsStampBelow s t)
greater-one s t = elim (cases_Bool (is_lt (stamp_cmp s t))) [
  | inl is ↦ inl (cond-true (is_lt (stamp_cmp s t)) t s is)
  | inr fails ↦ inr (cond-false (is_lt (stamp_cmp s t)) t s fails, not_below_tested s t fails)
]

-- the greatest stamp with one more label
with_stamp : (label : Label) (labels : List Label) (s : Stamp) → label.stamp ≡ Some s
    → greatest_stamp (label ∷ labels) ≡ greater_of (greatest_stamp labels) s
with_stamp label labels s is = ap (λ o. option_map_or (greater_of (greatest_stamp labels)) o (greatest_stamp labels)) is

without_stamp : (label : Label) (labels : List Label) → label.stamp ≡ None
    → greatest_stamp (label ∷ labels) ≡ greatest_stamp labels
without_stamp label labels is =
    ap (λ o. option_map_or (greater_of (greatest_stamp labels)) o (greatest_stamp labels)) is

-- a stamp is present or absent
stamp_or_none : (o : Option Stamp) → (o ≡ None) ⊎ ((s : Stamp) × (o ≡ Some s))
stamp_or_none None = inl refl
stamp_or_none (Some s) = inr (s, refl)

no_less : (label : Label) (labels : List Label)
    → ¬ IsStampBelow (greatest_stamp (label ∷ labels)) (greatest_stamp labels)
no_less label labels = elim (stamp_or_none label.stamp) [
  | inl none ↦ subst (λ u. ¬ IsStampBelow u (greatest_stamp labels)) (sym (without_stamp label labels none))
      (not_below_itself (greatest_stamp labels) (greatest_stamp labels) refl)
  | inr some ↦ subst (λ u. ¬ IsStampBelow u (greatest_stamp labels)) (sym (with_stamp label labels some.0 some.1))
      (greater-left (greatest_stamp labels) some.0)
]

greatest-bounds : (labels : List Label) (label : Label) (s : Stamp) → Contains labels label → label.stamp ≡ Some s
    → ¬ IsStampBelow (greatest_stamp labels) s
greatest-bounds [] label s there is = absurd (omega (arith, there.1))
greatest-bounds (first ∷ labels) label s there is = elim (head_or_behind first labels label there) [
  | inl here ↦
      let own : first.stamp ≡ Some s = ap (λ (l : Label). l.stamp) here ∙ is in
      subst (λ u. ¬ IsStampBelow u s) (sym (with_stamp first labels s own)) (greater-right (greatest_stamp labels) s)
  | inr further ↦
      not_below-through (greatest_stamp (first ∷ labels)) (greatest_stamp labels) s (no_less first labels)
      (greatest-bounds labels label s further is)
]

-- the greatest stamp is one of the labels' stamps, or no label has one
abbrev HasStamp : List Label → Stamp → Type 0
HasStamp labels s = (label : Label) × Contains labels label × (label.stamp ≡ Some s)

further_on : (first : Label) (labels : List Label) (s : Stamp) → HasStamp labels s → HasStamp (first ∷ labels) s
further_on first labels s (label, (k, within, at), is) = (label, (suc k, omega arith, at), is)

at_head : (first : Label) (labels : List Label) (s : Stamp) → first.stamp ≡ Some s → HasStamp (first ∷ labels) s
at_head first labels s is = (first, (zero, omega arith, refl), is)

none_below : (n : ℕ) → (0 < n → ⊥) → n ≡ 0
none_below zero none = refl
none_below (suc n) none = absurd (none (omega arith))

lowest_unless_below : (s : Stamp) → ¬ IsStampBelow lowest_rank s → s ≡ lowest_rank
lowest_unless_below s fails =
    let clock : s.clock ≡ 0 = none_below s.clock (λ more. fails (inl more)) in
    let replica : s.replica ≡ 0 = none_below s.replica (λ more. fails (inr (sym clock, more))) in
    λ i. record { clock = clock i; replica = replica i }

greatest-reached : (labels : List Label) → HasStamp labels (greatest_stamp labels)
    ⊎ ((greatest_stamp labels ≡ lowest_rank) × ((label : Label) → Contains labels label → label.stamp ≡ None))
greatest-reached [] = inr (refl, λ label there. absurd (omega (arith, there.1)))
greatest-reached (first ∷ labels) = elim (stamp_or_none first.stamp) [
  | inl none ↦
      let same = without_stamp first labels none in
      elim (greatest-reached labels) [
        | inl one ↦
            inl (subst (HasStamp (first ∷ labels)) (sym same) (further_on first labels (greatest_stamp labels) one))
        | inr lowest ↦ inr (
          same ∙ lowest.0,
          (λ label there. elim (head_or_behind first labels label there) [
            | inl here ↦ sym (ap (λ (l : Label). l.stamp) here) ∙ none
            | inr further ↦ lowest.1 label further
          ]),
        )
      ]
  | inr some ↦
      let same = with_stamp first labels some.0 some.1 in
      elim (greater-one (greatest_stamp labels) some.0) [
        | inl own ↦ inl (at_head first labels (greatest_stamp (first ∷ labels)) (some.1 ∙ ap Some (sym (same ∙ own))))
        | inr older ↦ elim (greatest-reached labels) [
          | inl one ↦
              inl (subst (HasStamp (first ∷ labels)) (sym (same ∙ older.0))
              (further_on first labels (greatest_stamp labels) one))
          | inr lowest ↦
              let is : some.0 ≡ lowest_rank =
              lowest_unless_below some.0 (subst (λ u. ¬ IsStampBelow u some.0) lowest.0 older.1) in
              inl (at_head first labels (greatest_stamp (first ∷ labels))
              (some.1 ∙ ap Some (is ∙ sym (same ∙ older.0 ∙ lowest.0))))
        ]
      ]
]

-- a label with its own stamp has it as its timestamp
pub timestamp-own : (records : Records) (label : Label) (s : Stamp) → label.stamp ≡ Some s
    → timestamp_of records label ≡ s
timestamp-own records label s is =
    ap (λ o. unwrap_or o
    (greatest_stamp (filter (λ other. sees records label.number other.number) (labels_of records)))) is

abbrev seen_by : Records → Label → List Label
seen_by records label = filter (λ other. sees records label.number other.number) (labels_of records)

timestamp-seen : (records : Records) (label : Label) → label.stamp ≡ None
    → timestamp_of records label ≡ greatest_stamp (seen_by records label)
timestamp-seen records label none = ap (λ o. unwrap_or o (greatest_stamp (seen_by records label))) none

-- otherwise no stamp that it sees is above its timestamp
pub timestamp-bounds : (records : Records) (label : Label) (s : Stamp) → label.stamp ≡ None → SeesStamp records label s
    → ¬ IsStampBelow (timestamp_of records label) s
timestamp-bounds records label s none (other, there, seen, is) =
    subst (λ u. ¬ IsStampBelow u s) (sym (timestamp-seen records label none))
    (greatest-bounds (seen_by records label) other s
    (kept-there (λ m. sees records label.number m.number) (labels_of records) other there seen) is)

-- and the timestamp is a stamp that it sees, or it sees none
pub timestamp-reached : (records : Records) (label : Label) → label.stamp ≡ None
    → SeesStamp records label (timestamp_of records label)
    ⊎ ((timestamp_of records label ≡ lowest_rank) × ((s : Stamp) → ¬ SeesStamp records label s))
timestamp-reached records label none =
    let same = timestamp-seen records label none in
    elim (greatest-reached (seen_by records label)) [
      | inl (other, there, is) ↦
          let known = there-kept (λ m. sees records label.number m.number) (labels_of records) other there in
          inl (other, known.0, known.1, is ∙ ap Some (sym same))
      | inr lowest ↦
          inr (
            same ∙ lowest.0,
            (λ s (other, there, seen, is). none-some s
                (sym (lowest.1 other
                (kept-there (λ m. sees records label.number m.number) (labels_of records) other there seen)) ∙ is)),
          )
    ]

-- later records do not change the timestamp
filter_as : (p q : Label → Bool) (labels : List Label) → ((label : Label) → p label ≡ q label)
    → filter p labels ≡ filter q labels
filter_as p q [] same = refl
filter_as p q (label ∷ labels) same =
    ap (λ b. cond b (label ∷ filter p labels) (filter p labels)) (same label)
    ∙ ap (λ rest. cond (q label) (label ∷ rest) rest) (filter_as p q labels same)

seen_by-next : (before : Records) (next : NextOperation) (label : Label)
    → label.number < label_count before → seen_by (operate next ∷ before) label ≡ seen_by before label
seen_by-next before next label below =
    let other : label.number ≡ label_count before → ⊥ = λ is. absurd (omega arith) in
    let same : (m : Label) → sees (operate next ∷ before) label.number m.number
    ≡ sees before label.number m.number =
    λ m. cond-false (eqb label.number (label_count before)) _ _ (ne_eqb _ _ other) in
    cond-false (sees (operate next ∷ before) label.number (label_count before)) _ _
    (cond-false (eqb label.number (label_count before)) (has_delivered before next.by (label_count before))
    (sees before label.number (label_count before)) (ne_eqb _ _ other) ∙ sees-next before label.number)
    ∙ filter_as (λ m. sees (operate next ∷ before) label.number m.number)
    (λ m. sees before label.number m.number) (labels_of before) same

pub timestamp-append : (later records : Records) (label : Label) → label.number < label_count records
    → timestamp_of (later ++ records) label ≡ timestamp_of records label
timestamp-append [] records label below = refl
timestamp-append (Operate by op clock ∷ later) records label below =
    let grows = label_count-append later records in
    ap (λ seen. unwrap_or label.stamp (greatest_stamp seen))
    (seen_by-next (later ++ records) (next_operation by op clock) label (omega (arith, grows, below)))
    ∙ timestamp-append later records label below
timestamp-append (_ ∷ later) records label below = timestamp-append later records label below
