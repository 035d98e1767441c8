-- Lemmas on the lists of an RGA's replicas, if one of them changes.
use Rattle.std.proofs.Common.{◌≡◌, ℕ, zero, suc, ◌<◌, ◌≤◌, ◌+◌, true, List, [], ◌∷◌, ◌++◌, length, set, get_or, Option, Some, None, refl, sym, ap, ◌∙◌, subst, inl, inr, arith}
use Rattle.std.specs.Prelude.{◌⊎◌, flat_map, Contains}
use Rattle.std.specs.List.{slice_get}
use Rattle.std.specs.Vec.{with_item}
use Rattle.std.proofs.lemmas.Bool.{false≢true}
use Rattle.std.proofs.lemmas.Option.{none-some, same_Some, slice_get_read}
use Rattle.std.proofs.lemmas.List.{length-set, length-append}
use Rattle.ra_labels.specs.declared.kind.Kind.TheVariants as variant
use Rattle.ra_labels.specs.declared.operation.Update.{Update}
use Rattle.ra_labels.specs.declared.command.Command.{Command}
use Rattle.ra_labels.specs.declared.command.Command.TheVariants.{Deliver, Join}
use Rattle.ra_labels.specs.declared.label.Label.{Label}
use Rattle.ra_labels.specs.Records.{Records, label_count, labels_of, replica_count}
use Rattle.ra_labels.specs.Visibility.{is_update_at}
use Rattle.ra_labels.specs.Rewriting.{parts_of, updates_of}
use Rattle.ra_labels.specs.Specification.{state_after}
use Rattle.ra_labels.specs.NamedOrder.{named_labels}
use Rattle.ra_labels.specs.TheoremTerms.{NoneDeliveredBeyond}
use Rattle.ra_labels.specs.HistorySoFar.{history_of, NextOperation}
use Rattle.ra_theorems.proofs.TheoremIndex.{delivery_extends_delivered-order, join_copies_delivered-order}
use Rattle.ra_rga_elements.specs.ElementList.{Arrival, ElementList}
use Rattle.ra_rga_replica.specs.declared.edit.Edit.{Edit}
use Rattle.ra_rga_replica.specs.Edits.{edit_at, AreElementsOf}
use Rattle.ra_rga_replica.specs.ReplicaList.{ReplicaList, IsListOf, settled_count}
use Rattle.ra_rga_replica.proofs.TheoremIndex.{list_unchanged_by_others-delivery, list_unchanged_by_others-join, join_copies_list}
use Rattle.ra_witness.specs.declared.rga.Rga.{Rga}
use Rattle.ra_witness.specs.Labels.{update_in}
use Rattle.ra_witness.specs.Rga.{IsRgaOf}
use Rattle.ra_witness.specs.Settled.{SettlesMore}
use Rattle.ra_witness.specs.Offered.{IsOffered, IsJoinedFrom}
use Rattle.ra_witness.proofs.Forms.{its_replica}
use Rattle.ra_witness.proofs.NumberedLabels.{update_found, makes_it, makes_none}

-- the list that is read at the next label's replica is that of the issuing replica
pub list_read : (rga : Rga) (initial_replicas : ℕ) (records : Records) (next : NextOperation) (label : Label) (list : ReplicaList)
    → IsRgaOf rga initial_replicas records → IsOffered (history_of variant.Rga initial_replicas records) next label
    → list ≡ get_or rga.lists.items label.replica list → slice_get rga.lists.items next.by ≡ Some list
list_read rga initial_replicas records next label list stands offered read =
    let by = its_replica (history_of variant.Rga initial_replicas records) next label offered in
    sym (ap (slice_get rga.lists.items) by)
    ∙ slice_get_read rga.lists.items (length rga.lists.items) label.replica list refl
    (omega (arith, by, stands.replicas, offered.replica)) read

-- after one element changed, each element is the new one or was there before
one_changed : {A : Type 0} (xs : List A) (r q : ℕ) (new x : A) → r < length xs → slice_get (set xs r new) q ≡ Some x
    → ((q ≡ r) × (new ≡ x)) ⊎ ((¬ (q ≡ r)) × (slice_get xs q ≡ Some x))
one_changed [] r q new x there is = absurd (omega (arith, there))
one_changed (y ∷ ys) zero zero new x there is = inl (refl, same_Some new x is)
one_changed (y ∷ ys) zero (suc q) new x there is = inr ((λ e. omega (arith, e)), is)
one_changed (y ∷ ys) (suc r) zero new x there is = inr ((λ e. omega (arith, e)), is)
one_changed (y ∷ ys) (suc r) (suc q) new x there is = elim (one_changed ys r q new x (omega (arith, there)) is) [
  | inl (at, same) ↦ inl (omega (arith, at), same)
  | inr (other, was) ↦ inr ((λ e. other (omega (arith, e))), was)
]

abbrev pub AreListsOf : List ReplicaList → List Arrival → List (Option Edit) → Records → Type 0
AreListsOf lists arrivals edits records = (replica : ℕ) (list : ReplicaList) → slice_get lists replica ≡ Some list → IsListOf list arrivals edits records replica

pub lists_with : (lists : List ReplicaList) (r : ℕ) (new : ReplicaList) (arrivals : List Arrival) (edits : List (Option Edit)) (records : Records) → r < length lists
    → IsListOf new arrivals edits records r
    → ((q : ℕ) (list : ReplicaList) → ¬ (r ≡ q) → slice_get lists q ≡ Some list → IsListOf list arrivals edits records q)
    → AreListsOf (set lists r new) arrivals edits records
lists_with lists r new arrivals edits records there own others q list at = elim (one_changed lists r q new list there at) [
  | inl (here, same) ↦ subst (λ x. IsListOf x arrivals edits records q) same (subst (λ k. IsListOf new arrivals edits records k) (sym here) own)
  | inr (other, was) ↦ others q list (λ e. other (sym e)) was
]

-- the number of updates that the command settles, from the lists of its replica before and after it
pub settles_more : {before after : ReplicaList} {arrivals arrived : List Arrival} {edits edited : List (Option Edit)}
    {records : Records} {command : Command} {replica more : ℕ} → (was : IsListOf before arrivals edits records replica)
    → (is : IsListOf after arrived edited (command ∷ records) replica) → settled_count is ≡ settled_count was + more
    → SettlesMore records command replica more
settles_more was is count = record {
  settled = was.settled;
  now = is.settled;
  before = was.kept.settles;
  after = is.kept.settles;
  count = count;
}

-- after one element was appended, each element is the new one or was there before
pushed_at : {A : Type 0} (xs : List A) (q : ℕ) (y x : A) → slice_get (xs ++ y ∷ []) q ≡ Some x
    → ((q < length xs) × (slice_get xs q ≡ Some x)) ⊎ ((q ≡ length xs) × (y ≡ x))
pushed_at [] zero y x is = inr (refl, same_Some y x is)
pushed_at [] (suc q) y x is = absurd (none-some x is)
pushed_at (z ∷ xs) zero y x is = inl (omega arith, is)
pushed_at (z ∷ xs) (suc q) y x is = elim (pushed_at xs q y x is) [
  | inl (there, was) ↦ inl (omega (arith, there), was)
  | inr (last, same) ↦ inr (omega (arith, last), same)
]

pub lists_pushed : (lists : List ReplicaList) (new : ReplicaList) (arrivals : List Arrival) (edits : List (Option Edit)) (records : Records)
    → AreListsOf lists arrivals edits records → ((replica : ℕ) → IsListOf new arrivals edits records replica) → AreListsOf (lists ++ new ∷ []) arrivals edits records
lists_pushed lists new arrivals edits records each own q list at = elim (pushed_at lists q new list at) [
  | inl (there, was) ↦ each q list was
  | inr (last, same) ↦ subst (λ x. IsListOf x arrivals edits records q) same (own q)
]

-- the lists with that of a joining replica, a copy of its source's list
lists_joined : (lists : List ReplicaList) (list : ReplicaList) (arrivals : List Arrival) (edits : List (Option Edit)) (initial_replicas : ℕ) (records : Records) (from : ℕ) → AreListsOf lists arrivals edits records
    → length lists ≡ replica_count initial_replicas records → IsListOf list arrivals edits records from → NoneDeliveredBeyond initial_replicas records
    → AreListsOf (lists ++ list ∷ []) arrivals edits (Join (replica_count initial_replicas records) from ∷ records)
lists_joined lists list arrivals edits initial_replicas records from each counted own beyond q other at =
    let joined = replica_count initial_replicas records in
    let now = Join joined from ∷ records in
    elim (pushed_at lists q list other at) [
      | inl (there, was) ↦ list_unchanged_by_others-join other arrivals edits records q joined from (each q other was) (λ is. omega (arith, there, counted, is))
      | inr (last, same) ↦
          subst (λ x. IsListOf x arrivals edits now q) same
          (subst (λ (r : ℕ). IsListOf list arrivals edits now r) (sym (last ∙ counted)) (join_copies_list list arrivals edits initial_replicas records from beyond own))
    ]

-- later records with the same labels in the same order leave the elements unchanged
elements_left : (all : ElementList) (edits : List (Option Edit)) (records now : Records) → label_count now ≡ label_count records → labels_of now ≡ labels_of records → named_labels variant.Rga now ≡ named_labels variant.Rga records
    → AreElementsOf all edits records → AreElementsOf all edits now
elements_left all edits records now count labels order elements =
    let was_there : (l : Label) → Contains (labels_of now) l → Contains (labels_of records) l = λ l there. subst (λ ls. Contains ls l) labels there in
    record {
      count = elements.count ∙ sym count;
      made = λ l u there. elements.made l u (was_there l there);
      makes = λ n d is. let (l, there, number, does) = elements.makes n d is in (l, subst (λ ls. Contains ls l) (sym labels) there, number, does);
      known = elements.known;
      stamp = λ l number there. elements.stamp l number (was_there l there);
      unstamped = λ l number there. elements.unstamped l number (was_there l there);
      some = elements.some;
      first = elements.first;
      came = elements.came;
      anchored = elements.anchored;
      once = elements.once;
      listed = (
        elements.listed.0,
        ap (λ ls. state_after variant.Rga (updates_of (flat_map parts_of ls))) order ∙ elements.listed.1,
        elements.listed.2,
      );
    }

-- so does a delivery, and so does a join
pub elements_told : (all : ElementList) (edits : List (Option Edit)) (records : Records) (to n : ℕ) → AreElementsOf all edits records → AreElementsOf all edits (Deliver to n ∷ records)
elements_told all edits records to n elements =
    elements_left all edits records (Deliver to n ∷ records) refl refl (delivery_extends_delivered-order variant.Rga records to n) elements

elements_joined : (all : ElementList) (edits : List (Option Edit)) (records : Records) (joined from : ℕ) → AreElementsOf all edits records → AreElementsOf all edits (Join joined from ∷ records)
elements_joined all edits records joined from elements =
    elements_left all edits records (Join joined from ∷ records) refl refl (join_copies_delivered-order variant.Rga records joined from) elements

-- a delivered label has an edit
pub told_edit : (all : ElementList) (edits : List (Option Edit)) (records : Records) (n : ℕ) → AreElementsOf all edits records → is_update_at records n ≡ true
    → (edit : Edit) × (edit_at edits n ≡ Some edit)
told_edit all edits records n elements is =
    let (label, at) = update_found records n is in
    let made : (o : Option Update) → update_in label.op ≡ o → (edit : Edit) × (edit_at edits n ≡ Some edit) = elim [
      | None ↦ λ none. absurd (false≢true (sym (makes_none label.op none) ∙ at.update))
      | Some u ↦ λ some.
          let (edit, found, same) = elements.made label u at.there (makes_it label.op u some) in
          (edit, ap (edit_at edits) (sym at.number) ∙ found)
    ] in
    made (update_in label.op) refl

module _ (rga : Rga) (initial_replicas : ℕ) (records : Records) (stands : IsRgaOf rga initial_replicas records) (r : ℕ) (new : ReplicaList) (there : r < length rga.lists.items) where
  abbrev changed : Rga
  changed = record { edits = rga.edits; all = rga.all; lists = with_item rga.lists r new }

  -- the state after the delivery
  pub rga_told : (n : ℕ) → IsListOf new rga.all.arrivals rga.edits.items (Deliver r n ∷ records) r → IsRgaOf changed initial_replicas (Deliver r n ∷ records)
  rga_told n own = record {
    elements = elements_told rga.all rga.edits.items records r n stands.elements;
    replicas = length-set rga.lists.items r new ∙ stands.replicas;
    lists = lists_with rga.lists.items r new rga.all.arrivals rga.edits.items (Deliver r n ∷ records) there own
        (λ q list other at. list_unchanged_by_others-delivery list rga.all rga.edits.items records q r n stands.elements (stands.lists q list at) other);
    few = stands.few;
  }

  -- the unchanged state
  pub rga_same : IsListOf new rga.all.arrivals rga.edits.items records r → IsRgaOf changed initial_replicas records
  rga_same own = record {
    elements = stands.elements;
    replicas = length-set rga.lists.items r new ∙ stands.replicas;
    lists = lists_with rga.lists.items r new rga.all.arrivals rga.edits.items records there own (λ q list other at. stands.lists q list at);
    few = stands.few;
  }

-- the state after a replica joins
pub rga_joined : (old new : Rga) (initial_replicas : ℕ) (records : Records) (from : ℕ) (list : ReplicaList) → IsRgaOf old initial_replicas records → IsJoinedFrom (history_of variant.Rga initial_replicas records) from → slice_get old.lists.items from ≡ Some list
    → new.edits ≡ old.edits → new.all ≡ old.all → new.lists.items ≡ old.lists.items ++ list ∷ [] → IsRgaOf new initial_replicas (Join (replica_count initial_replicas records) from ∷ records)
rga_joined old new initial_replicas records from list stands joins at edits all lists =
    let now = Join (replica_count initial_replicas records) from ∷ records in
    let same_edits : old.edits.items ≡ new.edits.items = sym (ap (λ ds. ds.items) edits) in
    let same_arrivals : old.all.arrivals ≡ new.all.arrivals = sym (ap (λ (es : ElementList). es.arrivals) all) in
    record {
      elements =
          subst (λ ds. AreElementsOf new.all ds now) same_edits
          (subst (λ es. AreElementsOf es old.edits.items now) (sym all) (elements_joined old.all old.edits.items records (replica_count initial_replicas records) from stands.elements));
      replicas = omega (arith, ap length lists, length-append old.lists.items (list ∷ []), stands.replicas);
      lists =
          subst (λ ls. AreListsOf ls new.all.arrivals new.edits.items now) (sym lists)
          (subst (λ ds. AreListsOf (old.lists.items ++ list ∷ []) new.all.arrivals ds now) same_edits
          (subst (λ rs. AreListsOf (old.lists.items ++ list ∷ []) rs old.edits.items now) same_arrivals
          (lists_joined old.lists.items list old.all.arrivals old.edits.items initial_replicas records from stands.lists stands.replicas (stands.lists from list at) joins.beyond)));
      few = subst (λ rs. length rs ≤ label_count records + 1) same_arrivals stands.few;
    }
