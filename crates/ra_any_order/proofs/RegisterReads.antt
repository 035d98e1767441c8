-- Lemmas on the condition of a register's read: the newest visible updates of the replicas require as much as all.
use Rattle.std.proofs.Common.{◌≡◌, ℕ, ◌≤◌, Bool, true, false, List, [], ◌∷◌, Option, Some, None, length, refl, sym, ap, ◌∙◌, subst, inl, inr}
use Rattle.std.specs.Prelude.{◌⊎◌, ◌==◌, ◌||◌, ◌&&◌, not, is_none, Contains}
use Rattle.std.proofs.lemmas.Bool.{cases_Bool, false≢true, not-true, not_from_false, or_cases, or_right, eqb-true, eq-eqb}
use Rattle.ra_labels.specs.declared.kind.Kind.{Kind}
use Rattle.ra_labels.specs.declared.kind.Kind.TheVariants.{Register}
use Rattle.ra_labels.specs.declared.operation.Op.{Op}
use Rattle.ra_labels.specs.declared.operation.Op.TheVariants as op
use Rattle.ra_labels.specs.declared.label.Label.{Label}
use Rattle.ra_labels.specs.Records.{Records, labels_of}
use Rattle.ra_labels.specs.Visibility.{is_update, sees}
use Rattle.ra_labels.specs.Places.{issuer_of}
use Rattle.ra_labels.specs.Answer.{kind_of}
use Rattle.ra_labels.proofs.Members.{at_head}
use Rattle.ra_precedence.specs.Conditions.{Condition}
use Rattle.ra_some_order.specs.VisibleUpdates.{writes, writes_other, visible_labels, HasOperation}
use Rattle.ra_some_order.specs.UpdateConditions.{value_condition}
use Rattle.ra_some_order.specs.PlainConditions.{IsPossibleRead}
use Rattle.ra_some_order.specs.LabelOrders.{Narrows}
use Rattle.ra_some_order.proofs.MetConditions.{there_visible, from_visible}
use Rattle.ra_any_order.proofs.NarrowSides.{AreListed, no_length, some_length, seen_label, narrow_side, wide_side, number_seen}
use Rattle.ra_visibility.specs.Newest.{AreNewest}
use Rattle.ra_any_order.specs.Reading.{narrow_value, is_possible_value}
use Rattle.ra_any_order.specs.Requirements.{IsOverwritten}

-- ---- tests of operations
abbrev pub is_register : Kind → Bool
is_register Register = true
is_register _ = false

write_sides : (value : Option ℕ) (operation : Op) → is_register (kind_of operation) ≡ true → is_update operation ≡ true
    → (writes_other value operation ≡ true) ⊎ (writes value operation ≡ true)
write_sides value (op.Write written) of_kind updates = elim (cases_Bool (writes value (op.Write written))) [
  | inl is ↦ inr is
  | inr other ↦ inl (not_from_false (writes value (op.Write written)) other)
]
write_sides value (op.Last read) of_kind updates = absurd (false≢true updates)
write_sides value _ of_kind updates = absurd (false≢true of_kind)

writes_none : (operation : Op) → writes None operation ≡ false
writes_none _ = refl

written : (value : ℕ) (operation : Op) → writes (Some value) operation ≡ true → operation ≡ op.Write value
written value (op.Write other) is = ap op.Write (sym (eqb-true value other is))
written value _ is = absurd (false≢true is)

writes_itself : (value : ℕ) (operation : Op) → operation ≡ op.Write value → writes (Some value) operation ≡ true
writes_itself value operation is = ap (writes (Some value)) is ∙ eq-eqb value value refl

writes_any : (value : ℕ) (operation : Op) → operation ≡ op.Write value → writes_other None operation ≡ true
writes_any value operation is = ap (writes_other None) is

module _ (records : Records) (operations : List Op) (listed : AreListed records operations) (n : ℕ) (newest : List ℕ)
    (are : AreNewest records n newest) where
  abbrev visible : List Label
  visible = visible_labels records n

  module _ (of_kind : (label : Label) → Contains (labels_of records) label → kind_of label.op ≡ Register)
      (value : Option ℕ) where
    abbrev full : Condition
    full = value_condition visible value

    abbrev narrow : Condition
    narrow = narrow_value operations newest value

    later_write : (k : ℕ) → sees records n k ≡ true
        → (m : ℕ) × (Contains narrow.before m ⊎ Contains narrow.after m) × (k ≤ m)
        × (issuer_of records k ≡ issuer_of records m)
    later_write k seen =
        let (m, among, later, same) = are.latest k seen in
        let (label, m_seen, numbered, updates) = seen_label records operations listed n newest are.seen m
        (are.seen m among) in
        let m_among : Contains newest label.number = subst (Contains newest) (sym numbered) among in (
          m,
          elim (write_sides value label.op (ap is_register (of_kind label (there_visible records n label m_seen).0))
              updates) [
                | inl other ↦ inl (subst (Contains narrow.before) numbered
                    (wide_side records operations listed n newest are.seen (writes_other value) label m_seen m_among other))
                | inr is ↦ inr (subst (Contains narrow.after) numbered (wide_side records operations listed n newest are.seen (writes value) label m_seen m_among is))
              ],
          later,
          same,
        )

    pub value_narrows : Narrows records full narrow
    value_narrows = record {
      before = narrow_side records operations listed n newest are.seen (writes_other value);
      after = narrow_side records operations listed n newest are.seen (writes value);
      kept =
          λ k side. elim side [
            | inl first ↦ later_write k (number_seen records operations listed n newest are.seen (writes_other value) k first)
            | inr second ↦ later_write k (number_seen records operations listed n newest are.seen (writes value) k second)
          ];
    }

    operation_seen : (v : ℕ) → HasOperation visible (op.Write v) → (k : ℕ) × (sees records n k ≡ true)
    operation_seen v (label, seen, is) = (label.number, (there_visible records n label seen).1)

    overwritten : ¬ (length narrow.before ≡ 0) → length narrow.after ≡ 0 → IsOverwritten records full
    overwritten some none =
        let (b, there) = some_length narrow.before some in record {
          some = (b, value_narrows.before b there);
          followed =
              λ k second.
              let (m, side, later, same) = value_narrows.kept k (inr second) in
              elim side [
                | inl first ↦ (m, value_narrows.before m first, later, same)
                | inr after ↦ absurd (no_length narrow.after none m after)
              ];
        }

    no_write : length narrow.before ≡ 0 → length narrow.after ≡ 0 → (v : ℕ) → ¬ HasOperation visible (op.Write v)
    no_write first second v has =
        let (k, seen) = operation_seen v has in
        let (m, side, later, same) = later_write k seen in
        elim side [
          | inl before ↦ no_length narrow.before first m before
          | inr after ↦ no_length narrow.after second m after
        ]

module _ (records : Records) (operations : List Op) (listed : AreListed records operations) (n : ℕ) (newest : List ℕ)
    (are : AreNewest records n newest)
    (of_kind : (label : Label) → Contains (labels_of records) label → kind_of label.op ≡ Register) where
  abbrev after_of : Option ℕ → List ℕ
  after_of value = (narrow_value operations newest value).after

  abbrev before_of : Option ℕ → List ℕ
  before_of value = (narrow_value operations newest value).before

  none_after : (c : ℕ) → ¬ Contains (after_of None) c
  none_after c there =
      let (label, seen, passes, numbered) = from_visible records n (writes None) c
      (narrow_side records operations listed n newest are.seen (writes None) c there) in
      false≢true (sym (writes_none label.op) ∙ passes)

  pub possible_value : (value : Option ℕ) → is_possible_value (narrow_value operations newest value) value ≡ true
      → IsPossibleRead (visible_labels records n) (op.Last value)
  possible_value None possible =
      elim (or_cases (not (length (after_of None) == 0)) (length (before_of None) == 0) possible) [
        | inl some ↦
            let (c, there) = some_length (after_of None) (λ none. false≢true
            (sym (not-true (length (after_of None) == 0) some) ∙ eq-eqb (length (after_of None)) 0 none)) in
            absurd (none_after c there)
        | inr none ↦ no_write records operations listed n newest are of_kind None
            (eqb-true (length (before_of None)) 0 none) (nothing (after_of None) none_after)
      ]
    where
      nothing : (xs : List ℕ) → ((x : ℕ) → ¬ Contains xs x) → length xs ≡ 0
      nothing [] none = refl
      nothing (x ∷ xs) none = absurd (none x (at_head x xs x refl))
  possible_value (Some v) possible =
      elim (or_cases (not (length (after_of (Some v)) == 0)) false possible) [
        | inl some ↦
            let (c, there) = some_length (after_of (Some v)) (λ none. false≢true
            (sym (not-true (length (after_of (Some v)) == 0) some) ∙ eq-eqb (length (after_of (Some v))) 0 none)) in
            let (label, seen, passes, numbered) = from_visible records n (writes (Some v)) c
            (narrow_side records operations listed n newest are.seen (writes (Some v)) c there) in
            (label, seen, written v label.op passes)
        | inr none ↦ absurd (false≢true none)
      ]

  pub impossible_value : (value : Option ℕ) → is_possible_value (narrow_value operations newest value) value ≡ false
      → (¬ IsPossibleRead (visible_labels records n) (op.Last value)) ⊎ IsOverwritten records (value_condition (visible_labels records n) value)
  impossible_value value impossible =
      elim (cases_Bool (length (after_of value) == 0)) [
        | inl none ↦ elim (cases_Bool (length (before_of value) == 0)) [
          | inl empty ↦ inl (no_value value (eqb-true (length (before_of value)) 0 empty)
              (eqb-true (length (after_of value)) 0 none) impossible)
          | inr some ↦ inr (overwritten records operations listed n newest are of_kind value
              (λ is. false≢true (sym some ∙ eq-eqb (length (before_of value)) 0 is))
              (eqb-true (length (after_of value)) 0 none))
        ]
        | inr some ↦ absurd (false≢true (sym impossible
            ∙ ap (λ b. not b || (is_none value && length (before_of value) == 0)) some))
      ]
    where
      no_value : (value : Option ℕ) → length (before_of value) ≡ 0 → length (after_of value) ≡ 0
          → is_possible_value (narrow_value operations newest value) value ≡ false
          → ¬ IsPossibleRead (visible_labels records n) (op.Last value)
      no_value None first second impossible =
          absurd (false≢true (sym impossible
          ∙ or_right (not (length (after_of None) == 0)) (length (before_of None) == 0)
          (eq-eqb (length (before_of None)) 0 first)))
      no_value (Some v) first second impossible =
          no_write records operations listed n newest are of_kind (Some v) first second v
