-- Lemmas on records that some sequence explains: how long one does, and that an update never ends it.
use Rattle.std.proofs.Common.{◌≡◌, ◌↔◌, ℕ, ◌<◌, true, false, List, [], ◌∷◌, ◌++◌, Some, None, refl, sym, ap, ◌∙◌, subst, inl, inr, arith}
use Rattle.std.specs.Prelude.{◌==◌, Contains}
use Rattle.std.specs.Option.{option_map_or}
use Rattle.std.proofs.lemmas.Bool.{false≢true, cases_eq, eq-eqb, ne_eqb, cond-true, cond-false}
use Rattle.ra_labels.specs.declared.kind.Kind.{Kind}
use Rattle.ra_labels.specs.declared.operation.Op.{Op}
use Rattle.ra_labels.specs.declared.operation.Op.TheVariants as op
use Rattle.ra_labels.specs.declared.label.Label.{Label}
use Rattle.ra_labels.specs.declared.command.Command.TheVariants.{Operate, Deliver, Join, Verdict}
use Rattle.ra_labels.specs.declared.reply.Fault.{Fault}
use Rattle.ra_labels.specs.Records.{Records, label_count, labels_of, label_at, records_to}
use Rattle.ra_labels.specs.Visibility.{is_update, is_update_at}
use Rattle.ra_labels.specs.NamedOrder.{named_sequence}
use Rattle.ra_labels.specs.Fault.{Holds, fault_of}
use Rattle.ra_labels.specs.HistorySoFar.{NextOperation, operate, label_of}
use Rattle.ra_labels.proofs.Members.{behind_head}
use Rattle.ra_theorems.proofs.TheoremIndex.{fault_none_implies_holds, fault_none_iff_prefixes_hold, fault_is_least_label}
use Rattle.ra_some_order.specs.UpdateConditions.{IsOrderOfUpdates}
use Rattle.ra_some_order.specs.PlainConditions.{IsPossibleRead}
use Rattle.ra_some_order.specs.SomeOrder.{SomeOrderExplains, EachLabelIsOfKind, is_decided_by_conditions}
use Rattle.ra_some_order.specs.VisibleUpdates.{visible_labels}
use Rattle.ra_some_order.proofs.Explanations.{some_order_exactly}
use Rattle.ra_some_order.proofs.NewLabels.{plain-new}
use Rattle.ra_some_order.proofs.AppendedUpdates.{order_with_update, conditions_with_update}

-- the named sequence is some sequence
pub explained_if_holds : (kind : Kind) (records : Records) → Holds kind records → SomeOrderExplains kind records
explained_if_holds kind records holds = (named_sequence kind records, holds)

-- an update is no read
update_possible : (visible : List Label) (operation : Op) → is_update operation ≡ true
    → IsPossibleRead visible operation
update_possible visible (op.Last None) updates = absurd (false≢true updates)
update_possible visible (op.Last (Some value)) updates = absurd (false≢true updates)
update_possible visible (op.LwwRead list) updates = absurd (false≢true updates)
update_possible visible _ updates = tt

-- a delivery and a join are no labels
order_with : (records others : Records) (order : List ℕ) → ((n : ℕ) → is_update_at records n ≡ is_update_at others n)
    → IsOrderOfUpdates records order → IsOrderOfUpdates others order
order_with records others order same is = record {
  once = is.once;
  all = λ n. ((λ updates. (is.all n).0 (same n ∙ updates)), (λ there. sym (same n) ∙ (is.all n).1 there));
}

module _ (kind : Kind) (decided : is_decided_by_conditions kind ≡ true) where
  older_of_kind : (records : Records) (next : NextOperation) → EachLabelIsOfKind kind (operate next ∷ records)
      → EachLabelIsOfKind kind records
  older_of_kind records next of_kind label there =
      of_kind label (behind_head (label_of records next) (labels_of records) label there)

  pub explained_with_update : (records : Records) (next : NextOperation)
      → EachLabelIsOfKind kind (operate next ∷ records) → is_update next.op ≡ true → SomeOrderExplains kind records
      → SomeOrderExplains kind (operate next ∷ records)
  explained_with_update records next of_kind updates explained =
      let (plain, (order, is, meets)) =
      (some_order_exactly kind records decided (older_of_kind records next of_kind)).0 explained in
      (some_order_exactly kind (operate next ∷ records) decided of_kind).1 (
        (plain-new records next).1 (
          update_possible
              (visible_labels (operate next ∷ records) (label_count records)) next.op updates,
          plain,
        ),
        (
          order ++ label_count records ∷ [],
          order_with_update records next order is updates,
          conditions_with_update records next order is updates meets,
        ),
      )

  -- a delivery and a join change nothing
  pub explained_with_delivery : (records : Records) (to n : ℕ) → EachLabelIsOfKind kind records
      → SomeOrderExplains kind (Deliver to n ∷ records) ↔ SomeOrderExplains kind records
  explained_with_delivery records to n of_kind =
      let now = some_order_exactly kind (Deliver to n ∷ records) decided of_kind in
      let before = some_order_exactly kind records decided of_kind in (
        (λ explained.
            let (plain, (order, is, meets)) = now.0 explained in
            before.1 (plain, (order, order_with (Deliver to n ∷ records) records order (λ m. refl) is, meets))),
        (λ explained.
            let (plain, (order, is, meets)) = before.0 explained in
            now.1 (plain, (order, order_with records (Deliver to n ∷ records) order (λ m. refl) is, meets))),
      )

  pub explained_with_join : (records : Records) (joined from : ℕ) → EachLabelIsOfKind kind records
      → SomeOrderExplains kind (Join joined from ∷ records) ↔ SomeOrderExplains kind records
  explained_with_join records joined from of_kind =
      let now = some_order_exactly kind (Join joined from ∷ records) decided of_kind in
      let before = some_order_exactly kind records decided of_kind in (
        (λ explained.
            let (plain, (order, is, meets)) = now.0 explained in
            before.1 (plain, (order, order_with (Join joined from ∷ records) records order (λ m. refl) is, meets))),
        (λ explained.
            let (plain, (order, is, meets)) = before.0 explained in
            now.1 (plain, (order, order_with records (Join joined from ∷ records) order (λ m. refl) is, meets))),
      )

-- ---- the records up to a label
record IsSplitAt (records : Records) (n : ℕ) : Type 0 where
  next : NextOperation
  before : Records
  count : label_count before ≡ n
  ends : records_to records n ≡ operate next ∷ before
  updates : is_update_at records n ≡ is_update next.op
  same : (m : ℕ) → m < n → records_to records m ≡ records_to before m
  among : (label : Label) → Contains (labels_of (operate next ∷ before)) label → Contains (labels_of records) label

split_at : (records : Records) (n : ℕ) → n < label_count records → IsSplitAt records n
split_at [] n below = absurd (omega (arith, below))
split_at (Operate by op clock ∷ older) n below = elim (cases_eq n (label_count older)) [
  | inl is ↦
      let next : NextOperation = record { by = by; op = op; clock = clock } in
      let now = operate next ∷ older in record {
        next = next;
        before = older;
        count = sym is;
        ends = cond-true (n == label_count older) now (records_to older n) (eq-eqb n (label_count older) is);
        updates =
            ap (λ o. option_map_or (λ (l : Label). is_update l.op) o false)
            (cond-true (label_count older == n) (Some (label_of older next)) (label_at older n)
            (eq-eqb (label_count older) n (sym is)));
        same =
            λ m less. cond-false (m == label_count older) now (records_to older m)
            (ne_eqb m (label_count older) (λ equal. absurd (omega (arith, less, equal, is))));
        among = λ label there. there;
      }
  | inr other ↦
      let rest = split_at older n (omega (arith, below, other)) in
      let next : NextOperation = record { by = by; op = op; clock = clock } in
      let now = operate next ∷ older in
      let earlier : (m : ℕ) → m < label_count older → records_to now m ≡ records_to older m =
      λ m less. cond-false (m == label_count older) now (records_to older m)
      (ne_eqb m (label_count older) (λ equal. absurd (omega (arith, less, equal)))) in record {
        next = rest.next;
        before = rest.before;
        count = rest.count;
        ends = earlier n (omega (arith, below, other)) ∙ rest.ends;
        updates =
            ap (λ o. option_map_or (λ (l : Label). is_update l.op) o false)
            (cond-false (label_count older == n) (Some (label_of older next)) (label_at older n)
            (ne_eqb (label_count older) n (λ equal. other (sym equal))))
            ∙ rest.updates;
        same = λ m less. earlier m (omega (arith, below, other, less)) ∙ rest.same m less;
        among = λ label there. behind_head (label_of older next) (labels_of older) label (rest.among label there);
      }
]
split_at (Deliver to label ∷ older) n below =
    let rest = split_at older n below in record {
      next = rest.next;
      before = rest.before;
      count = rest.count;
      ends = rest.ends;
      updates = rest.updates;
      same = rest.same;
      among = rest.among;
    }
split_at (Join joined from ∷ older) n below =
    let rest = split_at older n below in record {
      next = rest.next;
      before = rest.before;
      count = rest.count;
      ends = rest.ends;
      updates = rest.updates;
      same = rest.same;
      among = rest.among;
    }
split_at (Verdict ∷ older) n below =
    let rest = split_at older n below in record {
      next = rest.next;
      before = rest.before;
      count = rest.count;
      ends = rest.ends;
      updates = rest.updates;
      same = rest.same;
      among = rest.among;
    }

-- at an update that is a fault of the named order, another order explains the records
pub explained_at_update : (kind : Kind) (records : Records) (fault : Fault) → is_decided_by_conditions kind ≡ true
    → EachLabelIsOfKind kind records → fault_of kind records ≡ Some fault → is_update_at records fault.label ≡ true
    → SomeOrderExplains kind (records_to records fault.label)
explained_at_update kind records fault decided of_kind is updates =
    let n = fault.label in
    let least = (fault_is_least_label kind records fault).0 is in
    let split = split_at records n least.there in
    let holds : Holds kind split.before =
    fault_none_implies_holds kind split.before ((fault_none_iff_prefixes_hold kind split.before).1 (λ m below.
    let less : m < n = omega (arith, below, split.count) in
    subst (Holds kind) (split.same m less) (least.holds_before m less))) in
    subst (SomeOrderExplains kind) (sym split.ends)
    (explained_with_update kind decided split.before split.next
    (λ label there. of_kind label (split.among label there)) (sym split.updates ∙ updates)
    (explained_if_holds kind split.before holds))
