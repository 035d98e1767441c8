-- Lemmas on the delivery of a label.
use Rattle.std.proofs.Common.{◌≡◌, ℕ, ◌+◌, Bool, true, false, List, ◌∷◌, length, Option, Some, sym, ap, ◌∙◌, subst}
use Rattle.std.specs.Option.{option_map_or}
use Rattle.ra_labels.specs.declared.kind.Kind.TheVariants.{Rga}
use Rattle.ra_labels.specs.declared.label.Stamp.{Stamp}
use Rattle.ra_labels.specs.declared.label.Label.{Label}
use Rattle.ra_labels.specs.declared.command.Command.TheVariants.{Deliver}
use Rattle.ra_labels.specs.Records.{Records}
use Rattle.ra_labels.specs.Visibility.{is_update, is_update_at, has_delivered}
use Rattle.ra_labels.specs.NamedOrder.{greater_of}
use Rattle.ra_labels.specs.Insertion.{or_label}
use Rattle.ra_theorems.proofs.TheoremIndex.{label_at_each_number-found, operation_update_unique-exactly, delivered_extends_by_one-delivery, later_command_preserves_updates_passing-delivery}
use Rattle.ra_rga_elements.specs.ElementList.{ElementList, arrival_at, is_marked}
use Rattle.ra_rga_replica.specs.declared.edit.Edit.{Edit}
use Rattle.ra_rga_replica.specs.declared.edit.Edit.TheVariants.{PutsIn, Removes}
use Rattle.ra_rga_replica.specs.Edits.{edit_at, update_of, AreElementsOf}
use Rattle.ra_rga_replica.specs.ReplicaList.{ReplicaList, IsGreatestOf, IsListOf, settled_count}
use Rattle.ra_rga_replica.specs.Cascade.{IsListWithAfter}
use Rattle.ra_rga_replica.proofs.AlikeLists.{kept_alike, kept_delivered, greatest_alike, greatest_delivered}
use Rattle.ra_rga_replica.proofs.Greatest.{greatest_with, greatest_without}

-- a label with an edit is an update
pub does_update : {all : ElementList} {edits : List (Option Edit)} {records : Records} → AreElementsOf all edits records
    → (n : ℕ) (edit : Edit) → edit_at edits n ≡ Some edit → is_update_at records n ≡ true
does_update {all = all} {records = records} stand n edit is =
    let (l, l_in, l_num, l_makes) = stand.makes n edit is in
    subst (λ (k : ℕ). is_update_at records k ≡ true) l_num
    (ap (λ (o : Option Label). option_map_or (λ (m : Label). is_update m.op) o false)
    (label_at_each_number-found records l l_in)
    ∙ (operation_update_unique-exactly l.op).1 (update_of all.arrivals edit, l_makes))

module _ {all : ElementList} {edits : List (Option Edit)} {records : Records} where
  -- the list is that of the receiver after the label, and the number of steps is the number of settled labels
  pub delivered : {list : ReplicaList} {to : ℕ} (next : ReplicaList) (was : IsListOf list all.arrivals edits records to)
      (label steps : ℕ) (edit : Edit) → AreElementsOf all edits records → edit_at edits label ≡ Some edit
      → IsListWithAfter (λ n. is_marked next.shown n) next.marks next.waiting all.arrivals edits records
      (has_delivered records to) was.settled label steps
      → IsGreatestOf records (or_label (has_delivered records to) label) next.greatest
      → (is : IsListOf next all.arrivals edits (Deliver to label ∷ records) to)
      × (settled_count is ≡ settled_count was + steps)
  delivered {to = to} next was label steps edit stand is after top =
      let later = Deliver to label ∷ records in
      let same : (m : ℕ) → or_label (has_delivered records to) label m ≡ has_delivered later to m = λ m.
      sym (delivered_extends_by_one-delivery records to label m (does_update stand label edit is)) in (
        record {
          settled = after.settled;
          kept = kept_alike (has_delivered later to) same (kept_delivered to label after.kept);
          greatest = greatest_alike (has_delivered later to) same (greatest_delivered to label top);
        },
        ap length (later_command_preserves_updates_passing-delivery Rga records to label after.settled)
            ∙ after.count,
      )

  -- the greatest stamp with the label
  pub with_stamp : {test : ℕ → Bool} {greatest : Stamp} (label number : ℕ) (stamp : Stamp)
      → AreElementsOf all edits records → IsGreatestOf records test greatest
      → edit_at edits label ≡ Some (PutsIn number)
      → stamp ≡ (arrival_at all.arrivals number).stamp → IsGreatestOf records (or_label test label)
      (greater_of greatest stamp)
  with_stamp {test = test} {greatest = greatest} label number stamp stand top is stamp_is =
      let (l, l_in, l_num, l_makes) = stand.makes label (PutsIn number) is in
      subst (λ (k : ℕ). IsGreatestOf records (or_label test k) (greater_of greatest stamp)) l_num
      (greatest_with records test greatest stamp l top l_in
      (stand.stamp l number l_in (ap (edit_at edits) l_num ∙ is) ∙ ap (λ (s : Stamp). Some s) (sym stamp_is)))

  pub with_none : {test : ℕ → Bool} {greatest : Stamp} (label number : ℕ) → AreElementsOf all edits records
      → IsGreatestOf records test greatest → edit_at edits label ≡ Some (Removes number)
      → IsGreatestOf records (or_label test label) greatest
  with_none {test = test} {greatest = greatest} label number stand top is =
      let (l, l_in, l_num, l_makes) = stand.makes label (Removes number) is in
      subst (λ (k : ℕ). IsGreatestOf records (or_label test k) greatest) l_num
      (greatest_without records test greatest greatest l top l_in
      (stand.unstamped l number l_in (ap (edit_at edits) l_num ∙ is)))
