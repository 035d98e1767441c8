-- Lemmas on a label that the replica itself issues.
use Rattle.std.proofs.Common.{◌≡◌, ℕ, ◌+◌, ◌<◌, Bool, true, false, List, [], ◌∷◌, ◌++◌, length, Option, Some, None, refl, sym, ap, ◌∙◌, subst, arith}
use Rattle.std.specs.Prelude.{Contains, option_map}
use Rattle.std.proofs.lemmas.Bool.{eqb-true}
use Rattle.ra_labels.specs.declared.kind.Kind.TheVariants.{Rga}
use Rattle.ra_labels.specs.declared.operation.Update.{Update}
use Rattle.ra_labels.specs.declared.operation.Update.TheVariants.{After}
use Rattle.ra_labels.specs.declared.label.Stamp.{Stamp}
use Rattle.ra_labels.specs.Records.{Records, label_count, labels_of, stamp_at}
use Rattle.ra_labels.specs.HistorySoFar.{NextOperation, operate, label_of}
use Rattle.ra_labels.specs.Visibility.{has_delivered}
use Rattle.ra_labels.specs.Linearization.{updates_admitted}
use Rattle.ra_labels.specs.NamedOrder.{greater_of, named_sequence}
use Rattle.ra_labels.specs.Insertion.{or_label, HasUpdate}
use Rattle.ra_labels.proofs.Members.{at_head}
use Rattle.ra_theorems.proofs.TheoremIndex.{settled_not_pending, operation_update_unique-exactly, delivered_extends_by_one-operation, later_command_preserves_updates_passing-operation}
use Rattle.ra_theorems.proofs.TheoremIndex.{delivered_are_updates-next}
use Rattle.ra_rga_elements.specs.ElementList.{Arrival, ElementList, is_marked}
use Rattle.ra_rga_replica.specs.declared.edit.Edit.{Edit}
use Rattle.ra_rga_replica.specs.declared.edit.Edit.TheVariants.{PutsIn}
use Rattle.ra_rga_replica.specs.PendingLabels.{labels_under}
use Rattle.ra_rga_replica.specs.Edits.{edit_at, element_at, needed_number, AreElementsOf}
use Rattle.ra_rga_replica.specs.ReplicaList.{ReplicaList, IsListWith, IsGreatestOf, IsListOf, settled_count}
use Rattle.ra_rga_replica.specs.Cascade.{shown_with, IsListWithAfter}
use Rattle.ra_rga_replica.proofs.Edits.{edits_stand, needed_known, AreMarksWith}
use Rattle.ra_rga_replica.proofs.AlikeLists.{kept_alike, greatest_alike}
use Rattle.ra_rga_replica.proofs.Greatest.{greatest_with, greatest_without}
use Rattle.ra_rga_replica.proofs.ShownElements.{shown_step}
use Rattle.ra_rga_replica.proofs.HadLabels.{IsAdded, not_settled, held_back}
use Rattle.ra_rga_replica.proofs.LastFollowers.{goes_in}
use Rattle.ra_rga_replica.proofs.NewMarks.{kept_known, greatest_known}
use Rattle.ra_rga_replica.proofs.NewEdits.{needed_same, first_same, new_last, longer_by_one, grown_by_one}
use Rattle.std.proofs.lemmas.List.{get_or_at}

none_in : (xs : List ℕ) → ((n : ℕ) → ¬ Contains xs n) → xs ≡ []
none_in [] none = refl
none_in (x ∷ xs) none = absurd (none x (at_head x xs x refl))

-- the last edit is that of the next label
pub next_edit : (edits : List (Option Edit)) (edit : Edit) (count : ℕ) → length edits ≡ count
    → edit_at (edits ++ Some edit ∷ []) count ≡ Some edit
next_edit edits edit count counted = get_or_at edits (Some edit) [] None count counted

-- the list is that of the issuer after the label, and the number of steps is the number of settled labels
pub owned : {list : ReplicaList} {old_arrivals arrivals : List Arrival} {old_edits edits : List (Option Edit)}
    {records : Records} (next : NextOperation) (u : Update) (later : ReplicaList)
    (was : IsListOf list old_arrivals old_edits records next.by) (steps : ℕ) → HasUpdate next.op u
    → let now = operate next ∷ records in
    IsListWithAfter (λ n. is_marked later.shown n) later.marks later.waiting arrivals edits now (has_delivered records next.by) was.settled
    (label_count records) steps
    → IsGreatestOf now (or_label (has_delivered records next.by) (label_count records)) later.greatest
    → (is : IsListOf later arrivals edits now next.by) × (settled_count is ≡ settled_count was + steps)
owned {records = records} next u later was steps makes after top =
    let now = operate next ∷ records in
    let same : (m : ℕ) → or_label (has_delivered records next.by) (label_count records) m ≡ has_delivered now next.by m = λ m.
    sym (delivered_extends_by_one-operation records next m
    ((operation_update_unique-exactly next.op).1 (u, makes))) in
    let older = later_command_preserves_updates_passing-operation Rga records next
    was.settled
    (not_settled was.kept (label_count records) (delivered_are_updates-next records next.by)) in (
      record {
        settled = after.settled;
        kept = kept_alike (has_delivered now next.by) same after.kept;
        greatest = greatest_alike (has_delivered now next.by) same top;
      },
      after.count ∙ ap (λ us. length us + steps) older,
    )

-- the greatest stamp with the label
pub own_stamp : {records : Records} {greatest : Stamp} (next : NextOperation) (stamp : Stamp)
    → IsGreatestOf records (has_delivered records next.by) greatest → option_map (stamp_at next.by) next.clock ≡ Some stamp
    → IsGreatestOf (operate next ∷ records) (or_label (has_delivered records next.by) (label_count records))
    (greater_of greatest stamp)
own_stamp {records = records} {greatest = greatest} next stamp top is =
    greatest_with (operate next ∷ records) (has_delivered records next.by) greatest stamp (label_of records next)
    (greatest_known next top (delivered_are_updates-next records next.by)) (at_head _ (labels_of records) _ refl) is

pub own_none : {records : Records} {greatest : Stamp} (next : NextOperation)
    → IsGreatestOf records (has_delivered records next.by) greatest → next.clock ≡ None
    → IsGreatestOf (operate next ∷ records) (or_label (has_delivered records next.by) (label_count records)) greatest
own_none {records = records} {greatest = greatest} next top is =
    greatest_without (operate next ∷ records) (has_delivered records next.by) greatest greatest (label_of records next)
    (greatest_known next top (delivered_are_updates-next records next.by)) (at_head _ (labels_of records) _ refl)
    (ap (option_map (stamp_at next.by)) is)

own_anchor : (arrivals : List Arrival) (new : Arrival)
    → needed_number (arrivals ++ new ∷ []) (PutsIn (length arrivals)) ≡ new.anchor
own_anchor arrivals new = ap (λ (a : Arrival). a.anchor) (new_last arrivals new)

module _ {all : ElementList} {edits : List (Option Edit)} {records : Records} {shows : ℕ → Bool} {marks : List Bool}
    {waiting : List (ℕ × List ℕ)} {settled : ℕ → Bool} (next : NextOperation) where
  pub own_known : (new : Arrival) → AreElementsOf all edits records
      → IsListWith shows marks waiting all.arrivals edits records (has_delivered records next.by) settled
      → updates_admitted Rga (named_sequence Rga (operate next ∷ records)) ≡ true
      → HasUpdate next.op (After (element_at all.arrivals new.anchor) new.element)
      → IsListWith shows marks waiting (all.arrivals ++ new ∷ []) (edits ++ Some (PutsIn (length all.arrivals)) ∷ [])
      (operate next ∷ records) (has_delivered records next.by) settled
  own_known new stand kept admitted makes =
      kept_known (all.arrivals ++ new ∷ []) (Some (PutsIn (length all.arrivals))) next kept (delivered_are_updates-next records next.by)
      stand.count
      (longer_by_one all.arrivals new next (element_at all.arrivals new.anchor) admitted makes
      (not_settled kept (label_count records) (delivered_are_updates-next records next.by)))
      (needed_same (all.arrivals ++ new ∷ []) (edits_stand stand) (first_same all.arrivals new))

  -- its anchor is present
  pub own_put : (new : Arrival) (later : ℕ → Bool) (later_marks : List Bool) → AreElementsOf all edits records
      → IsListWith shows marks waiting all.arrivals edits records (has_delivered records next.by) settled
      → HasUpdate next.op (After (element_at all.arrivals new.anchor) new.element) → new.anchor < length all.arrivals
      → updates_admitted Rga (named_sequence Rga (operate next ∷ records)) ≡ true
      → is_marked marks new.anchor ≡ true
      → ((k : ℕ) → later k ≡ shown_with (Some (PutsIn (length all.arrivals))) shows k)
      → AreMarksWith marks later_marks (PutsIn (length all.arrivals))
      → IsListWithAfter later later_marks waiting (all.arrivals ++ new ∷ [])
      (edits ++ Some (PutsIn (length all.arrivals)) ∷ []) (operate next ∷ records) (has_delivered records next.by) settled
      (label_count records) 1
  own_put new later later_marks stand kept makes known admitted there stepped with_it =
      let grown = grown_by_one new next stand admitted makes known in
      let now_kept = own_known new stand kept admitted makes in
      let is = next_edit edits (PutsIn (length all.arrivals)) (label_count records) stand.count in
      let needs : is_marked marks (needed_number (all.arrivals ++ new ∷ []) (PutsIn (length all.arrivals))) ≡ true =
      ap (is_marked marks) (own_anchor all.arrivals new) ∙ there in
      let none = ((settled_not_pending (operate next ∷ records) (has_delivered records next.by) settled).0
      now_kept.settles).1 in
      goes_in later later_marks (label_count records) (PutsIn (length all.arrivals)) grown now_kept is
      (delivered_are_updates-next records next.by) needs
      (shown_step grown none now_kept.there now_kept.shown later (label_count records) (PutsIn (length all.arrivals)) is
      (not_settled now_kept (label_count records) (delivered_are_updates-next records next.by)) stepped)
      with_it
      (λ number puts_it. none_in (labels_under waiting number) (λ n found.
      let (d, d_is, d_needs, was_had, waits) = kept.waiting_labels.only number n found in
      omega (arith, needed_known (edits_stand stand) n d d_is, d_needs, eqb-true number (length all.arrivals) puts_it)))

  -- its anchor is absent, so the label is pending
  pub own_waits : (new : Arrival) (later : List (ℕ × List ℕ)) → AreElementsOf all edits records
      → IsListWith shows marks waiting all.arrivals edits records (has_delivered records next.by) settled
      → HasUpdate next.op (After (element_at all.arrivals new.anchor) new.element) → new.anchor < length all.arrivals
      → updates_admitted Rga (named_sequence Rga (operate next ∷ records)) ≡ true → is_marked marks new.anchor ≡ false
      → IsAdded waiting later new.anchor (label_count records)
      → IsListWithAfter shows marks later (all.arrivals ++ new ∷ []) (edits ++ Some (PutsIn (length all.arrivals)) ∷ [])
      (operate next ∷ records) (has_delivered records next.by) settled (label_count records) 0
  own_waits new later stand kept makes known admitted missing added =
      let grown = grown_by_one new next stand admitted makes known in
      let now_kept = own_known new stand kept admitted makes in
      let is = next_edit edits (PutsIn (length all.arrivals)) (label_count records) stand.count in
      held_back later (label_count records) (PutsIn (length all.arrivals)) grown now_kept is (delivered_are_updates-next records next.by)
      (ap (is_marked marks) (own_anchor all.arrivals new) ∙ missing)
      (subst (λ (n : ℕ). IsAdded waiting later n (label_count records)) (sym (own_anchor all.arrivals new)) added)
