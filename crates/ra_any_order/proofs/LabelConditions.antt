-- Lemmas on the conditions of one label more.
use Rattle.std.proofs.Common.{◌≡◌, ℕ, ◌+◌, ◌<◌, Bool, true, false, List, [], ◌∷◌, ◌++◌, Option, Some, None, refl, sym, ap, ◌∙◌, subst, inl, inr, arith}
use Rattle.std.specs.Prelude.{◌⊎◌, ◌==◌, Contains}
use Rattle.std.proofs.lemmas.Bool.{false≢true, cases_eq, eqb-true}
use Rattle.std.proofs.lemmas.Option.{same_Some}
use Rattle.std.proofs.lemmas.List.Elements.{Contains-append_left, Contains-append_right, Contains-append_cases}
use Rattle.ra_labels.specs.declared.kind.Kind.TheVariants.{Register}
use Rattle.ra_labels.specs.declared.operation.Op.{Op}
use Rattle.ra_labels.specs.declared.operation.Op.TheVariants as op
use Rattle.ra_labels.specs.declared.label.Label.{Label}
use Rattle.ra_labels.specs.Edges.{IsBefore}
use Rattle.ra_labels.specs.Records.{Records, label_count, labels_of, label_at}
use Rattle.ra_labels.specs.Visibility.{sees}
use Rattle.ra_labels.specs.Places.{issuer_of}
use Rattle.ra_labels.specs.Answer.{kind_of}
use Rattle.ra_labels.proofs.Members.{head_or_behind, at_head, none_there, in_piece}
use Rattle.ra_theorems.proofs.TheoremIndex.{sees_earlier_updates-earlier, label_at_each_number-found}
use Rattle.ra_precedence.specs.Conditions.{Condition, Meets, MeetsAll}
use Rattle.ra_some_order.specs.VisibleUpdates.{visible_labels}
use Rattle.ra_some_order.specs.UpdateConditions.{value_condition, read_conditions, conditions_of, conditions_of_label}
use Rattle.ra_some_order.specs.PlainConditions.{IsPossibleRead}
use Rattle.ra_some_order.specs.LabelOrders.{IsOrderOfLabels, Narrows}
use Rattle.ra_some_order.proofs.TheoremIndex.{narrow_condition_requires_as_much}
use Rattle.ra_some_order.proofs.UpdateOrders.{found_there}
use Rattle.ra_some_order.proofs.Explanations.{of_read}
use Rattle.ra_visibility.specs.Newest.{AreNewest}
use Rattle.ra_any_order.specs.Previous.{IsLastBelow}
use Rattle.ra_any_order.specs.Reading.{with_option, order_condition, narrow_value, is_possible_value}
use Rattle.ra_any_order.specs.Requirements.{IsFollowedBy, IsInTurn, Requires, Turn, Answer, IsRequired, IsRefused, AreConditionsBelow, AreReadConditions}
use Rattle.ra_any_order.proofs.NarrowSides.{AreListed}
use Rattle.ra_any_order.proofs.RegisterReads.{value_narrows, possible_value, impossible_value}

-- ---- the labels before one of them
option_there : (labels : List ℕ) (label : Option ℕ) (b : ℕ) → Contains labels b → Contains (with_option labels label) b
option_there labels None b there = there
option_there labels (Some l) b there = Contains-append_left labels (l ∷ []) b there

option_last : (labels : List ℕ) (l : ℕ) → Contains (with_option labels (Some l)) l
option_last labels l = Contains-append_right labels (l ∷ []) l (at_head l [] l refl)

from_option : (labels : List ℕ) (label : Option ℕ) (b : ℕ) → Contains (with_option labels label) b
    → Contains labels b ⊎ (label ≡ Some b)
from_option labels None b there = inl there
from_option labels (Some l) b there = elim (Contains-append_cases labels (l ∷ []) b there) [
  | inl among ↦ inl among
  | inr last ↦ elim (head_or_behind l [] b last) [
    | inl here ↦ inr (ap Some here)
    | inr further ↦ absurd (none_there b further)
  ]
]

module _ (records : Records) (n : ℕ) (there : n < label_count records) (newest : List ℕ)
    (are : AreNewest records n newest) (previous : Option ℕ)
    (last : IsLastBelow records n (issuer_of records n) previous) where
  abbrev ordering : Condition
  ordering = order_condition newest previous n

  met_before : (order : List ℕ) → Meets order ordering → (b : ℕ) → Contains ordering.before b → IsBefore order b n
  met_before order meets b first =
      let (c, second, before) = meets b first in
      elim (head_or_behind n [] c second) [
        | inl here ↦ subst (IsBefore order b) (sym here) before
        | inr further ↦ absurd (none_there c further)
      ]

  pub seen_followed : (order : List ℕ) → Meets order ordering → (k : ℕ) → sees records n k ≡ true
      → IsFollowedBy records order k n
  seen_followed order meets k seen =
      let (m, among, later, same) = are.latest k seen in (
        m,
        later,
        sees_earlier_updates-earlier records n m (are.seen m among),
        same,
        met_before order meets m (option_there newest previous m among),
      )

  pub previous_followed : (order : List ℕ) → Meets order ordering → (k : ℕ) → k < n
      → issuer_of records k ≡ issuer_of records n → IsFollowedBy records order k n
  previous_followed order meets k less same = go previous last (met_before order meets)
    where
      go : (p : Option ℕ) → IsLastBelow records n (issuer_of records n) p
          → ((b : ℕ) → Contains (with_option newest p) b → IsBefore order b n) → IsFollowedBy records order k n
      go None none before = absurd (none k less same)
      go (Some p) (below, issued, latest) before =
          (p, latest k less same, below, same ∙ sym issued, before p (option_last newest p))

  last_below : (b : ℕ) → previous ≡ Some b → (b < n) × (issuer_of records b ≡ issuer_of records n)
  last_below b is =
      let (below, issued, latest) = subst (IsLastBelow records n (issuer_of records n)) is last in (below, issued)

  ordering_required : IsRequired records ordering
  ordering_required b first = (
    n,
    Turn there refl (elim (from_option newest previous b first) [
      | inl among ↦ inl (are.seen b among)
      | inr before ↦ inr (last_below b before)
    ]),
  )

-- ---- what labels require
pub full_there : (records : Records) (label : Label) → Contains (labels_of records) label → (full : Condition)
    → Contains (read_conditions (visible_labels records label.number) label.op) full
    → Contains (conditions_of records) full
full_there records label there full asked =
    in_piece (conditions_of_label records) (labels_of records) label full there (of_read records label full asked)

-- an order of the labels that meets the conditions of the records meets each condition that a label requires
pub required_met : (records : Records) (condition : Condition) → IsRequired records condition → (order : List ℕ)
    → IsOrderOfLabels records order → MeetsAll order (conditions_of records) → Meets order condition
required_met records condition required order is meets b first = go (required b first).0 (required b first).1
  where
    go : (n : ℕ) → Requires records n condition b → (c : ℕ) × Contains condition.after c × IsBefore order b c
    go n (Turn there after (inl seen)) = (n, subst (λ cs. Contains cs n) (sym after) (at_head n [] n refl), is.seen n b there seen)
    go n (Turn there after (inr (less, same))) =
        (n, subst (λ cs. Contains cs n) (sym after) (at_head n [] n refl), is.replicas b n less there same)
    go n (Answer label full at asked narrows) =
        let (here, numbered) = found_there (λ (l : Label). l.number == n) (labels_of records) label at in
        (narrow_condition_requires_as_much records order is n label.op full condition asked narrows).0
        (meets full (full_there records label here full
        (subst (λ k. Contains (read_conditions (visible_labels records k) label.op) full)
        (sym (eqb-true label.number n numbered)) asked))) b first

-- ---- one label more
module _ (records : Records) (label : Label) (here : Contains (labels_of records) label)
    (below : label.number < label_count records) (newest : List ℕ) (are : AreNewest records label.number newest)
    (previous : Option ℕ) (last : IsLastBelow records label.number (issuer_of records label.number) previous)
    (conditions : List Condition) (kept : AreConditionsBelow records label.number conditions) (reads : List Condition)
    (are_reads : AreReadConditions records label.number label.op conditions reads) where
  abbrev n : ℕ
  n = label.number

  abbrev added : List Condition
  added = reads ++ order_condition newest previous n ∷ []

  is_label : (other : Label) → label_at records n ≡ Some other → label ≡ other
  is_label other at = same_Some label other (sym (label_at_each_number-found records label here) ∙ at)

  met_left : (order : List ℕ) → MeetsAll order (conditions ++ added) → MeetsAll order conditions
  met_left order meets condition among = meets condition (Contains-append_left conditions added condition among)

  met_reads : (order : List ℕ) → MeetsAll order (conditions ++ added) → MeetsAll order (conditions ++ reads)
  met_reads order meets condition among = elim (Contains-append_cases conditions reads condition among) [
    | inl older ↦ met_left order meets condition older
    | inr read ↦ meets condition (Contains-append_right conditions added condition
        (Contains-append_left reads (order_condition newest previous n ∷ []) condition read))
  ]

  met_ordering : (order : List ℕ) → MeetsAll order (conditions ++ added)
      → Meets order (order_condition newest previous n)
  met_ordering order meets =
      let condition = order_condition newest previous n in
      meets condition (Contains-append_right conditions added condition
      (Contains-append_right reads (condition ∷ []) condition (at_head condition [] condition refl)))

  from_added : (condition : Condition) → Contains (conditions ++ added) condition
      → Contains conditions condition ⊎ Contains reads condition
      ⊎ (order_condition newest previous n ≡ condition)
  from_added condition among = elim (Contains-append_cases conditions added condition among) [
    | inl older ↦ inl older
    | inr new ↦ inr (elim (Contains-append_cases reads (order_condition newest previous n ∷ []) condition new) [
      | inl read ↦ inl read
      | inr last ↦ elim (head_or_behind (order_condition newest previous n) [] condition last) [
        | inl is ↦ inr is
        | inr further ↦ absurd (none_there condition further)
      ]
    ])
  ]

  new_in_turn : (order : List ℕ) → MeetsAll order (conditions ++ added) → IsInTurn records order n
  new_in_turn order meets = record {
    seen = seen_followed records n below newest are previous last order (met_ordering order meets);
    previous = previous_followed records n below newest are previous last order (met_ordering order meets);
    read =
        λ other at full asked.
        are_reads.met order (met_reads order meets) full
        (subst (λ (l : Label). Contains (read_conditions (visible_labels records n) l.op) full)
        (sym (is_label other at)) asked);
  }

  pub one_more : AreConditionsBelow records (n + 1) (conditions ++ added)
  one_more = record {
    in_turn =
        λ k less order meets. elim (cases_eq k n) [
          | inl is ↦ subst (IsInTurn records order) (sym is) (new_in_turn order meets)
          | inr other ↦ kept.in_turn k (omega (arith, less, other)) order (met_left order meets)
        ];
    possible =
        λ k less other at. elim (cases_eq k n) [
          | inl is ↦
              let same = is_label other (subst (λ j. label_at records j ≡ Some other) is at) in
              subst (λ j. IsPossibleRead (visible_labels records j) other.op) (sym is)
              (subst (λ (l : Label). IsPossibleRead (visible_labels records n) l.op) same are_reads.possible)
          | inr earlier ↦ kept.possible k (omega (arith, less, earlier)) other at
        ];
    required =
        λ condition among. elim (from_added condition among) [
          | inl older ↦ kept.required condition older
          | inr new ↦ elim new [
            | inl read ↦ are_reads.required condition read
            | inr last_one ↦ subst (IsRequired records) last_one
                (ordering_required records n below newest are previous last)
          ]
        ];
  }

-- ---- the reads of a register
module _ (records : Records) (label : Label) (here : Contains (labels_of records) label) (value : Option ℕ)
    (is : label.op ≡ op.Last value) (operations : List Op) (listed : AreListed records operations)
    (of_kind : (other : Label) → Contains (labels_of records) other → kind_of other.op ≡ Register)
    (newest : List ℕ) (are : AreNewest records label.number newest) where
  abbrev visible : List Label
  visible = visible_labels records label.number

  abbrev full_value : Condition
  full_value = value_condition visible value

  abbrev narrow : Condition
  narrow = narrow_value operations newest value

  narrows : Narrows records full_value narrow
  narrows = value_narrows records operations listed label.number newest are of_kind value

  asked : Contains (read_conditions visible label.op) full_value
  asked = subst (λ o. Contains (read_conditions visible o) full_value) (sym is)
      (at_head full_value [] full_value refl)

  pub value_reads : (conditions : List Condition) → is_possible_value narrow value ≡ true
      → AreReadConditions records label.number (op.Last value) conditions (narrow ∷ [])
  value_reads conditions possible = record {
    required =
        λ condition among. elim (head_or_behind narrow [] condition among) [
          | inl same ↦ subst (IsRequired records) same (λ b first. (
            label.number,
            Answer label full_value (label_at_each_number-found records label here) asked narrows,
          ))
          | inr further ↦ absurd (none_there condition further)
        ];
    met =
        λ order meets full there. elim (head_or_behind full_value [] full there) [
          | inl same ↦ (
            narrow,
            subst (λ c. Narrows records c narrow) same narrows,
            meets narrow
                (Contains-append_right conditions (narrow ∷ []) narrow (at_head narrow [] narrow refl)),
          )
          | inr further ↦ absurd (none_there full further)
        ];
    possible = possible_value records operations listed label.number newest are of_kind value possible;
  }

  pub value_refused : is_possible_value narrow value ≡ false → IsRefused records visible (op.Last value) None
  value_refused impossible =
      impossible_value records operations listed label.number newest are of_kind value impossible

-- ---- no reads
-- `true` if the operation is a read of a register or of an LWW set
abbrev pub is_read : Op → Bool
is_read (op.Last value) = true
is_read (op.LwwRead list) = true
is_read _ = false

pub no_reads : (records : Records) (n : ℕ) (operation : Op) (conditions : List Condition)
    → is_read operation ≡ false → AreReadConditions records n operation conditions []
no_reads records n operation conditions other = record {
  required = λ condition among. absurd (none_there condition among);
  met = λ order meets full there. absurd (none operation other full there);
  possible = any operation other;
}
  where
    none : (o : Op) → is_read o ≡ false → (full : Condition)
        → ¬ Contains (read_conditions (visible_labels records n) o) full
    none (op.Last value) not_read full there = false≢true (sym not_read)
    none (op.LwwRead list) not_read full there = false≢true (sym not_read)
    none _ not_read full there = none_there full there

    any : (o : Op) → is_read o ≡ false → IsPossibleRead (visible_labels records n) o
    any (op.Last value) not_read = absurd (false≢true (sym not_read))
    any (op.LwwRead list) not_read = absurd (false≢true (sym not_read))
    any _ not_read = tt
