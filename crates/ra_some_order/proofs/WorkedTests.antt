-- Tests that decide the conditions of small histories by evaluation, for the worked examples.
use Rattle.std.proofs.Common.{◌≡◌, ℕ, Bool, true, false, List, [], ◌∷◌, Some, None, length, sym, ap, ◌∙◌, subst, inl, inr}
use Rattle.std.specs.Prelude.{◌==◌, nat_lt, ◌&&◌, ◌||◌, not, Contains}
use Rattle.std.specs.List.{list_all, list_any}
use Rattle.std.proofs.lemmas.Bool.{false≢true, and_parts, or_cases, eqb-true, ltb-true, not-true}
use Rattle.ra_labels.specs.declared.kind.Kind.{Kind}
use Rattle.ra_labels.specs.declared.operation.Op.{Op}
use Rattle.ra_labels.specs.declared.operation.Op.TheVariants as op
use Rattle.ra_labels.specs.declared.label.Label.{Label}
use Rattle.ra_labels.specs.Answer.{kind_of, is_kind}
use Rattle.ra_labels.specs.Lists.{is_among}
use Rattle.ra_labels.specs.FreeList.{has_each_once}
use Rattle.ra_labels.specs.Edges.{IsBefore}
use Rattle.ra_labels.specs.Records.{Records, labels_of}
use Rattle.ra_labels.specs.Visibility.{is_update, is_update_at}
use Rattle.ra_labels.proofs.InLists.{among-exactly, list_all-contains}
use Rattle.ra_labels.proofs.Members.{what_passes}
use Rattle.ra_labels.proofs.SameKind.{same_kind}
use Rattle.ra_list_model.proofs.OnceListed.{once_exactly}
use Rattle.ra_theorems.specs.AnyOrder.{NoneLinearizes}
use Rattle.ra_precedence.specs.Conditions.{Condition, MeetsAll, IsStuck}
use Rattle.ra_some_order.specs.VisibleUpdates.{writes, writes_other, adds, removes, visible_labels, elements_in, HasOperation}
use Rattle.ra_some_order.specs.UpdateConditions.{conditions_of, IsOrderOfUpdates}
use Rattle.ra_some_order.specs.PlainConditions.{IsPossibleRead, MeetsPlainConditions}
use Rattle.ra_some_order.specs.SomeOrder.{SomeOrderExplains, EachLabelIsOfKind, is_decided_by_conditions}
use Rattle.ra_some_order.proofs.WrittenValues.{made_write, writes_from}
use Rattle.ra_some_order.proofs.Linearizations.{stuck_final}
use Rattle.ra_some_order.proofs.Explanations.{some_order_exactly}
use Rattle.ra_some_order.proofs.UpdateOrders.{update_label}

abbrev holds_back : List ℕ → ℕ → Condition → Bool
holds_back set b condition = is_among b condition.before && list_all (λ c. is_among c set) condition.after

abbrev pub is_stuck : List Condition → List ℕ → Bool
is_stuck conditions set =
    nat_lt 0 (length set) && list_all (λ b. list_any (holds_back set b) conditions) set

pub stuck_if : (conditions : List Condition) (set : List ℕ) → is_stuck conditions set ≡ true → IsStuck conditions set
stuck_if conditions set is =
    let test = λ (b : ℕ). list_any (holds_back set b) conditions in
    let parts = and_parts (nat_lt 0 (length set)) (list_all test set) is in record {
      some = ltb-true 0 (length set) parts.0;
      held =
          λ b member.
          let (condition, among, holds) = what_passes (holds_back set b) conditions
          (list_all-contains test set b parts.1 member) in
          let both = and_parts (is_among b condition.before) (list_all (λ c. is_among c set) condition.after) holds in (
            condition,
            among,
            record {
              before = (among-exactly b condition.before).0 both.0;
              after =
                  λ c there. (among-exactly c set).0
                  (list_all-contains (λ k. is_among k set) condition.after c both.1 there);
            },
          );
    }

abbrev comes_before : List ℕ → ℕ → ℕ → Bool
comes_before [] a b = false
comes_before (x ∷ xs) a b = (x == a && is_among b xs) || comes_before xs a b

before_if : (xs : List ℕ) (a b : ℕ) → comes_before xs a b ≡ true → IsBefore xs a b
before_if [] a b is = absurd (false≢true is)
before_if (x ∷ xs) a b is = elim (or_cases (x == a && is_among b xs) (comes_before xs a b) is) [
  | inl here ↦
      let both = and_parts (x == a) (is_among b xs) here in
      inl (eqb-true x a both.0, (among-exactly b xs).0 both.1)
  | inr further ↦ inr (before_if xs a b further)
]

abbrev meets : List ℕ → Condition → Bool
meets order condition = list_all (λ b. list_any (comes_before order b) condition.after) condition.before

abbrev pub meets_all : List ℕ → List Condition → Bool
meets_all order conditions = list_all (meets order) conditions

pub meets_if : (order : List ℕ) (conditions : List Condition) → meets_all order conditions ≡ true
    → MeetsAll order conditions
meets_if order conditions is condition among b first =
    let (c, second, before) = what_passes (comes_before order b) condition.after
    (list_all-contains (λ k. list_any (comes_before order k) condition.after) condition.before b
    (list_all-contains (meets order) conditions condition is among) first) in
    (c, second, before_if order b c before)

abbrev pub has_each_update : Records → List ℕ → Bool
has_each_update records order =
    has_each_once order
    && (list_all (λ label. not (is_update label.op) || is_among label.number order) (labels_of records)
    && list_all (is_update_at records) order)

pub order_if : (records : Records) (order : List ℕ) → has_each_update records order ≡ true
    → IsOrderOfUpdates records order
order_if records order is =
    let listed = λ (label : Label). not (is_update label.op) || is_among label.number order in
    let parts = and_parts (has_each_once order)
    (list_all listed (labels_of records) && list_all (is_update_at records) order) is in
    let both = and_parts (list_all listed (labels_of records))
    (list_all (is_update_at records) order) parts.1 in record {
      once = (once_exactly order).0 parts.0;
      all =
          λ n. (
            (λ updates.
                let (label, there, numbered, updates_it) = update_label records n updates in
                elim (or_cases (not (is_update label.op)) (is_among label.number order)
                (list_all-contains listed (labels_of records) label both.0 there)) [
                  | inl reads ↦ absurd (false≢true (sym (not-true (is_update label.op) reads) ∙ updates_it))
                  | inr among ↦ subst (Contains order) numbered ((among-exactly label.number order).0 among)
                ]),
            (λ there. list_all-contains (is_update_at records) order n both.1 there),
          );
    }

-- ---- plain conditions
has_operation : (visible : List Label) (operation : Op) (test : Op → Bool)
    → ((other : Op) → test other ≡ true → other ≡ operation) → list_any (λ label. test label.op) visible ≡ true
    → HasOperation visible operation
has_operation visible operation test only is =
    let (label, there, passes) = what_passes (λ (l : Label). test l.op) visible is in
    (label, there, only label.op passes)

write_only : (value : ℕ) (other : Op) → writes (Some value) other ≡ true → other ≡ op.Write value
write_only value other is = made_write other value (writes_from value other is)

add_only : (x : ℕ) (other : Op) → adds x other ≡ true → other ≡ op.LwwAdd x
add_only x (op.LwwAdd y) is = ap op.LwwAdd (sym (eqb-true x y is))
add_only x _ is = absurd (false≢true is)

remove_only : (x : ℕ) (other : Op) → removes x other ≡ true → other ≡ op.LwwRemove x
remove_only x (op.LwwRemove y) is = ap op.LwwRemove (sym (eqb-true x y is))
remove_only x _ is = absurd (false≢true is)

abbrev added_in : List Label → ℕ → Bool
added_in visible x = list_any (λ label. adds x label.op) visible

abbrev out_or_removed : List Label → List ℕ → ℕ → Bool
out_or_removed visible list x = is_among x list || list_any (λ label. removes x label.op) visible

abbrev is_possible : List Label → Op → Bool
is_possible visible (op.Last None) = list_all (λ label. not (writes_other None label.op)) visible
is_possible visible (op.Last (Some value)) = list_any (λ label. writes (Some value) label.op) visible
is_possible visible (op.LwwRead list) =
    list_all (added_in visible) list && list_all (out_or_removed visible list) (elements_in visible)
is_possible visible _ = true

possible_if : (visible : List Label) (operation : Op) → is_possible visible operation ≡ true
    → IsPossibleRead visible operation
possible_if visible (op.Last None) is = λ value (label, there, made).
    false≢true (sym (not-true (writes_other None label.op)
    (list_all-contains (λ (l : Label). not (writes_other None l.op)) visible label is there)) ∙ ap
    (writes_other None) made)
possible_if visible (op.Last (Some value)) is =
    has_operation visible (op.Write value) (writes (Some value)) (write_only value) is
possible_if visible (op.LwwRead list) is =
    let parts = and_parts (list_all (added_in visible) list)
    (list_all (out_or_removed visible list) (elements_in visible)) is in (
      (λ x listed. has_operation visible (op.LwwAdd x) (adds x) (add_only x)
          (list_all-contains (added_in visible) list x parts.0 listed)),
      (λ x changed unlisted.
          elim (or_cases (is_among x list) (list_any (λ (l : Label). removes x l.op) visible)
          (list_all-contains (out_or_removed visible list) (elements_in visible) x parts.1 changed)) [
            | inl among ↦ absurd (unlisted ((among-exactly x list).0 among))
            | inr removed ↦ has_operation visible (op.LwwRemove x) (removes x) (remove_only x) removed
          ]),
    )
possible_if visible _ is = tt

abbrev pub are_possible : Records → Bool
are_possible records =
    list_all (λ label. is_possible (visible_labels records label.number) label.op) (labels_of records)

pub plain_if : (records : Records) → are_possible records ≡ true → MeetsPlainConditions records
plain_if records is label there =
    possible_if (visible_labels records label.number) label.op
    (list_all-contains (λ (l : Label). is_possible (visible_labels records l.number) l.op)
    (labels_of records) label is there)

abbrev pub are_of_kind : Kind → Records → Bool
are_of_kind kind records = list_all (λ label. is_kind (kind_of label.op) kind) (labels_of records)

of_kind_if : (kind : Kind) (records : Records) → are_of_kind kind records ≡ true → EachLabelIsOfKind kind records
of_kind_if kind records is label there =
    sym (same_kind (kind_of label.op) kind
    (list_all-contains (λ (l : Label). is_kind (kind_of l.op) kind) (labels_of records) label is there))

-- an order that passes all tests explains the records
pub explained_by : (kind : Kind) (records : Records) (order : List ℕ) → is_decided_by_conditions kind ≡ true
    → are_of_kind kind records ≡ true → are_possible records ≡ true → has_each_update records order ≡ true
    → meets_all order (conditions_of records) ≡ true → SomeOrderExplains kind records
explained_by kind records order decided of_kind plain each meets_it =
    (some_order_exactly kind records decided (of_kind_if kind records of_kind)).1
    (plain_if records plain, (order, order_if records order each, meets_if order (conditions_of records) meets_it))

-- and a set that passes its test rules out each order
pub excluded_by : (kind : Kind) (records : Records) (set : List ℕ) → is_decided_by_conditions kind ≡ true
    → is_stuck (conditions_of records) set ≡ true → NoneLinearizes kind records
excluded_by kind records set decided stuck =
    stuck_final kind records set decided (stuck_if (conditions_of records) set stuck)
