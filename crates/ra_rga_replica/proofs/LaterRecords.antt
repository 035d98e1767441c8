-- Lemmas on later labels, deliveries and joins, which preserve the list of a replica.
use Rattle.std.proofs.Common.{◌≡◌, ℕ, Bool, true, false, List, [], ◌∷◌, ◌++◌, length, Option, Some, None, refl, sym, ap}
use Rattle.ra_labels.specs.declared.kind.Kind.TheVariants.{Rga}
use Rattle.ra_labels.specs.declared.operation.Update.TheVariants.{After}
use Rattle.ra_labels.specs.declared.command.Command.TheVariants.{Deliver, Join}
use Rattle.ra_labels.specs.Records.{Records, label_count, replica_count}
use Rattle.ra_labels.specs.HistorySoFar.{NextOperation, operate}
use Rattle.ra_labels.specs.Visibility.{is_update, has_delivered}
use Rattle.ra_labels.specs.Linearization.{updates_admitted}
use Rattle.ra_labels.specs.NamedOrder.{named_sequence}
use Rattle.ra_labels.specs.TheoremTerms.{NoneDeliveredBeyond}
use Rattle.ra_labels.specs.Insertion.{HasUpdate}
use Rattle.ra_theorems.proofs.TheoremIndex.{join_copies_delivered-labels, later_command_preserves_updates_passing-operation}
use Rattle.ra_theorems.proofs.TheoremIndex.{delivered_are_updates-next}
use Rattle.ra_rga_elements.specs.ElementList.{Arrival, ElementList}
use Rattle.ra_rga_replica.specs.declared.edit.Edit.{Edit}
use Rattle.ra_rga_replica.specs.declared.edit.Edit.TheVariants.{PutsIn, Removes}
use Rattle.ra_rga_replica.specs.Edits.{element_at, AreElementsOf}
use Rattle.ra_rga_replica.specs.ReplicaList.{ReplicaList, IsListOf, IsListBy, settled_count}
use Rattle.ra_rga_replica.proofs.Edits.{edits_stand}
use Rattle.ra_rga_replica.proofs.AlikeLists.{kept_alike, kept_delivered, kept_joined, greatest_alike, greatest_delivered, greatest_joined}
use Rattle.ra_rga_replica.proofs.HadLabels.{not_settled}
use Rattle.ra_rga_replica.proofs.NewMarks.{had_by_other, had_no_query, had_to_other, had_by_new, none_longer, kept_known, greatest_known}
use Rattle.ra_rga_replica.proofs.NewEdits.{needed_same, first_same, longer_by_one}

-- after a label that was not delivered: an insertion, or another operation
module _ {list : ReplicaList} {all : ElementList} {edits : List (Option Edit)} {records : Records} (next : NextOperation)
    {test : ℕ → Bool} where
  pub known_insertion : (new : Arrival) (d : Option Edit) (more : ℕ → Bool) → AreElementsOf all edits records
      → IsListBy list all.arrivals edits records test → test (label_count records) ≡ false
      → HasUpdate next.op (After (element_at all.arrivals new.anchor) new.element)
      → updates_admitted Rga (named_sequence Rga (operate next ∷ records)) ≡ true → ((n : ℕ) → test n ≡ more n)
      → IsListBy list (all.arrivals ++ new ∷ []) (edits ++ d ∷ []) (operate next ∷ records) more
  known_insertion new d more stand held fresh makes admitted same = record {
    settled = held.settled;
    kept = kept_alike more same (kept_known (all.arrivals ++ new ∷ []) d next held.kept fresh stand.count
        (longer_by_one all.arrivals new next (element_at all.arrivals new.anchor) admitted makes
        (not_settled held.kept (label_count records) fresh))
        (needed_same (all.arrivals ++ new ∷ []) (edits_stand stand) (first_same all.arrivals new)));
    greatest = greatest_alike more same (greatest_known next held.greatest fresh);
  }

  unfoldable pub known_other : (d : Option Edit) (more : ℕ → Bool) → AreElementsOf all edits records
      → IsListBy list all.arrivals edits records test → test (label_count records) ≡ false → ((n : ℕ) → test n ≡ more n)
      → IsListBy list all.arrivals (edits ++ d ∷ []) (operate next ∷ records) more
  known_other d more stand held fresh same = record {
    settled = held.settled;
    kept = kept_alike more same (kept_known all.arrivals d next held.kept fresh stand.count
        (none_longer all.arrivals (operate next ∷ records) held.settled) (λ n edit is. refl));
    greatest = greatest_alike more same (greatest_known next held.greatest fresh);
  }

pub insertion-stays : (list : ReplicaList) (all : ElementList) (new : Arrival) (edits : List (Option Edit))
    (records : Records) (replica : ℕ) (next : NextOperation) → AreElementsOf all edits records
    → IsListOf list all.arrivals edits records replica
    → ¬ (next.by ≡ replica) → HasUpdate next.op (After (element_at all.arrivals new.anchor) new.element)
    → updates_admitted Rga (named_sequence Rga (operate next ∷ records)) ≡ true
    → IsListOf list (all.arrivals ++ new ∷ []) (edits ++ Some (PutsIn (length all.arrivals)) ∷ [])
    (operate next ∷ records) replica
insertion-stays list all new edits records replica next stand held other makes admitted =
    known_insertion next new (Some (PutsIn (length all.arrivals))) (has_delivered (operate next ∷ records) replica) stand held
    (delivered_are_updates-next records replica) makes admitted (had_by_other records next replica other)

pub removal-stays : (list : ReplicaList) (all : ElementList) (edits : List (Option Edit)) (records : Records)
    (replica number : ℕ) (next : NextOperation) → AreElementsOf all edits records
    → IsListOf list all.arrivals edits records replica
    → ¬ (next.by ≡ replica) → IsListOf list all.arrivals (edits ++ Some (Removes number) ∷ []) (operate next ∷ records)
    replica
removal-stays list all edits records replica number next stand held other =
    known_other next (Some (Removes number)) (has_delivered (operate next ∷ records) replica) stand held (delivered_are_updates-next records replica)
    (had_by_other records next replica other)

pub query-stays : (list : ReplicaList) (all : ElementList) (edits : List (Option Edit)) (records : Records)
    (replica : ℕ) (next : NextOperation) → AreElementsOf all edits records
    → (was : IsListOf list all.arrivals edits records replica) → is_update next.op ≡ false
    → (is : IsListOf list all.arrivals (edits ++ None ∷ []) (operate next ∷ records) replica)
    × (settled_count is ≡ settled_count was)
unfolding known_other
query-stays list all edits records replica next stand held query = (
  known_other next None (has_delivered (operate next ∷ records) replica) stand held (delivered_are_updates-next records replica)
      (had_no_query records next replica query),
  ap length (later_command_preserves_updates_passing-operation Rga records next held.settled
      (not_settled held.kept (label_count records) (delivered_are_updates-next records replica))),
)

pub delivery-stays : (list : ReplicaList) (all : ElementList) (edits : List (Option Edit)) (records : Records)
    (replica to n : ℕ) → AreElementsOf all edits records → IsListOf list all.arrivals edits records replica
    → ¬ (to ≡ replica)
    → IsListOf list all.arrivals edits (Deliver to n ∷ records) replica
delivery-stays list all edits records replica to n stand held other =
    let same = had_to_other records to n replica other in
    record {
      settled = held.settled;
      kept = kept_alike (has_delivered (Deliver to n ∷ records) replica) same (kept_delivered to n held.kept);
      greatest = greatest_alike (has_delivered (Deliver to n ∷ records) replica) same (greatest_delivered to n held.greatest);
    }

-- a join preserves a list if the same labels were delivered
joined_alike : (list : ReplicaList) (arrivals : List Arrival) (edits : List (Option Edit)) (records : Records)
    (joined from : ℕ) (was now : ℕ → Bool) → ((n : ℕ) → was n ≡ now n) → IsListBy list arrivals edits records was
    → IsListBy list arrivals edits (Join joined from ∷ records) now
joined_alike list arrivals edits records joined from was now same held = record {
  settled = held.settled;
  kept = kept_alike now same (kept_joined joined from held.kept);
  greatest = greatest_alike now same (greatest_joined joined from held.greatest);
}

pub join-stays : (list : ReplicaList) (arrivals : List Arrival) (edits : List (Option Edit)) (records : Records)
    (replica joined from : ℕ) → IsListOf list arrivals edits records replica → ¬ (joined ≡ replica)
    → IsListOf list arrivals edits (Join joined from ∷ records) replica
join-stays list arrivals edits records replica joined from held other =
    joined_alike list arrivals edits records joined from (has_delivered records replica)
    (has_delivered (Join joined from ∷ records) replica) (had_by_new records joined from replica other) held

-- and the joining replica has the list of its source
pub join-copied : (list : ReplicaList) (arrivals : List Arrival) (edits : List (Option Edit)) (initial_replicas : ℕ)
    (records : Records) (from : ℕ) → NoneDeliveredBeyond initial_replicas records → IsListOf list arrivals edits records from
    → let joined = replica_count initial_replicas records in IsListOf list arrivals edits (Join joined from ∷ records) joined
join-copied list arrivals edits initial_replicas records from beyond held =
    let joined = replica_count initial_replicas records in
    joined_alike list arrivals edits records joined from (has_delivered records from) (has_delivered (Join joined from ∷ records) joined)
    (λ n. sym (join_copies_delivered-labels initial_replicas records from n beyond)) held
