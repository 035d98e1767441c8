-- Lemmas on the maintained state of an RGA after one more label.
use Rattle.std.proofs.Common.{◌≡◌, ℕ, ◌<◌, Bool, true, false, List, [], ◌∷◌, ◌++◌, length, set, Some, None, sym, ap, ◌∙◌, subst, inl, inr, arith, length-append}
use Rattle.std.specs.List.{slice_get}
use Rattle.std.proofs.lemmas.Option.{slice_get_cases}
use Rattle.std.proofs.lemmas.List.{length-set}
use Rattle.ra_labels.specs.declared.kind.Kind.TheVariants as variant
use Rattle.ra_labels.specs.declared.operation.Op.TheVariants as ops
use Rattle.ra_labels.specs.declared.operation.Update.TheVariants.{After, RgaRemove}
use Rattle.ra_labels.specs.declared.label.Label.{Label}
use Rattle.ra_labels.specs.declared.label.Stamp.{Stamp}
use Rattle.ra_labels.specs.Records.{Records}
use Rattle.ra_labels.specs.Visibility.{is_update}
use Rattle.ra_labels.specs.NamedOrder.{named_sequence}
use Rattle.ra_labels.specs.Linearization.{updates_admitted}
use Rattle.ra_labels.specs.TheoremTerms.{elements_in}
use Rattle.ra_labels.specs.Late.{insert_late_after}
use Rattle.ra_labels.specs.Insertion.{HasUpdate}
use Rattle.ra_labels.specs.HistorySoFar.{history_of, NextOperation, operate}
use Rattle.ra_rga_elements.specs.ElementList.{Arrival, ElementList, arrival_at, IsBelowByStamp}
use Rattle.ra_rga_replica.specs.declared.edit.Edit.TheVariants.{PutsIn, Removes}
use Rattle.ra_rga_replica.specs.Edits.{element_at, AreElementsOf}
use Rattle.ra_rga_replica.specs.ReplicaList.{ReplicaList, IsListOf}
use Rattle.ra_rga_replica.proofs.TheoremIndex.{list_unchanged_by_others-insertion, list_unchanged_by_others-removal, list_unchanged_by_others-query}
use Rattle.ra_witness.specs.declared.rga.Rga.{Rga}
use Rattle.ra_witness.specs.Rga.{IsRgaOf}
use Rattle.ra_witness.specs.Settled.{SettlesMore}
use Rattle.ra_witness.specs.Offered.{IsOffered}
use Rattle.ra_witness.proofs.AdmittedElements.{own_stamp, some_clock}
use Rattle.ra_witness.proofs.ReplicaLists.{AreListsOf, lists_with, settles_more}
use Rattle.ra_witness.proofs.NewLabel.{elements_more, adds_nothing, adds_removal}
use Rattle.ra_witness.proofs.NewElement.{adds_insertion}

module _ (old grown : Rga) (initial_replicas : ℕ) (records : Records) (next : NextOperation) (label : Label)
    (stands : IsRgaOf old initial_replicas records) (offered : IsOffered (history_of variant.Rga initial_replicas records) next label) where
  abbrev now : Records
  now = operate next ∷ records

  -- after a label that is not an update
  pub rga_asked : is_update next.op ≡ false → grown.edits.items ≡ old.edits.items ++ None ∷ [] → grown.all ≡ old.all
      → grown.lists ≡ old.lists → IsRgaOf grown initial_replicas now × SettlesMore records (operate next) next.by 0
  rga_asked asks its_edits same_all same_lists =
      let edits = old.edits.items in
      let with_it = edits ++ None ∷ [] in
      let elements = elements_more old.all old.all edits records next None stands.elements
      (adds_nothing old.all edits records next stands.elements asks) in
      let asked = λ (q : ℕ) (list : ReplicaList) (at : slice_get old.lists.items q ≡ Some list).
      list_unchanged_by_others-query list old.all edits records q next stands.elements (stands.lists q list at) asks in
      let lists : AreListsOf old.lists.items old.all.arrivals with_it now = λ q list at. (asked q list at).0 in
      let settles : SettlesMore records (operate next) next.by 0 = elim (slice_get_cases old.lists.items next.by).1 [
        | inl (list, within, at, same) ↦
            let (is, count) = asked next.by list at in
            settles_more (stands.lists next.by list at) is (omega (arith, count))
        | inr (beyond, none) ↦ absurd (omega (arith, beyond, stands.replicas, offered.replica))
      ] in (
        record {
          elements =
              subst (λ ds. AreElementsOf grown.all ds now) (sym its_edits)
              (subst (λ a. AreElementsOf a with_it now) (sym same_all) elements);
          replicas = ap (λ ls. length ls.items) same_lists ∙ stands.replicas;
          lists =
              subst (λ ds. AreListsOf grown.lists.items grown.all.arrivals ds now) (sym its_edits)
              (subst (λ a. AreListsOf grown.lists.items a.arrivals with_it now) (sym same_all)
              (subst (λ ls. AreListsOf ls.items old.all.arrivals with_it now) (sym same_lists) lists));
          few = omega (arith, stands.few, ap (λ (a : ElementList). length a.arrivals) same_all);
        },
        settles,
      )

  -- after a label that removes the element with this number
  pub rga_removed : (number : ℕ) (list : ReplicaList) → HasUpdate next.op (RgaRemove (element_at old.all.arrivals number))
      → next.clock ≡ None → number < length old.all.arrivals
      → updates_admitted variant.Rga (named_sequence variant.Rga now) ≡ true
      → grown.edits.items ≡ old.edits.items ++ Some (Removes number) ∷ [] → grown.all ≡ old.all
      → grown.lists.items ≡ set old.lists.items next.by list
      → IsListOf list old.all.arrivals (old.edits.items ++ Some (Removes number) ∷ []) now next.by
      → IsRgaOf grown initial_replicas now
  rga_removed number list removes no_clock within admitted its_edits same_all its_lists own =
      let edits = old.edits.items in
      let with_it = edits ++ Some (Removes number) ∷ [] in
      let elements = elements_more old.all old.all edits records next (Some (Removes number))
      stands.elements
      (adds_removal old.all edits records next number stands.elements removes within no_clock admitted) in
      let lists : AreListsOf (set old.lists.items next.by list) old.all.arrivals with_it now =
      lists_with old.lists.items next.by list old.all.arrivals with_it now
      (omega (arith, stands.replicas, offered.replica)) own
      (λ q other differ at.
      list_unchanged_by_others-removal other old.all edits records q number next stands.elements
      (stands.lists q other at) differ removes) in
      record {
        elements =
            subst (λ ds. AreElementsOf grown.all ds now) (sym its_edits)
            (subst (λ a. AreElementsOf a with_it now) (sym same_all) elements);
        replicas = ap length its_lists ∙ length-set old.lists.items next.by list ∙ stands.replicas;
        lists =
            subst (λ ds. AreListsOf grown.lists.items grown.all.arrivals ds now) (sym its_edits)
            (subst (λ a. AreListsOf grown.lists.items a.arrivals with_it now) (sym same_all)
            (subst (λ ls. AreListsOf ls old.all.arrivals with_it now) (sym its_lists) lists));
        few = omega (arith, stands.few, ap (λ (a : ElementList). length a.arrivals) same_all);
      }

  -- after a label that inserts an element after the one with this number
  pub rga_put : (anchor x m : ℕ) (stamp : Stamp) (list : ReplicaList) → next.op ≡ ops.After anchor x
      → let newest : Arrival = record { element = x; stamp = stamp; anchor = m } in
      label.stamp ≡ Some stamp → m < length old.all.arrivals → HasUpdate next.op (After (element_at old.all.arrivals m) x)
      → ((n : ℕ) → n < length old.all.arrivals → ¬ (element_at old.all.arrivals n ≡ x))
      → updates_admitted variant.Rga (named_sequence variant.Rga now) ≡ true
      → grown.edits.items ≡ old.edits.items ++ Some (PutsIn (length old.all.arrivals)) ∷ []
      → grown.all.arrivals ≡ old.all.arrivals ++ newest ∷ []
      → ((below : ℕ → ℕ → Bool) (all : List (ℕ × Bool)) → IsBelowByStamp below x stamp old.all.arrivals
      → elements_in all ≡ old.all.elements
      → grown.all.elements ≡ elements_in (insert_late_after below (arrival_at old.all.arrivals m).element x all))
      → grown.lists.items ≡ set old.lists.items next.by list
      → IsListOf list (old.all.arrivals ++ newest ∷ [])
      (old.edits.items ++ Some (PutsIn (length old.all.arrivals)) ∷ []) now next.by
      → IsRgaOf grown initial_replicas now
  rga_put anchor x m stamp list is stamped within makes new admitted its_edits its_arrivals its_elements its_lists own =
      let newest : Arrival = record { element = x; stamp = stamp; anchor = m } in
      let edits = old.edits.items in
      let number = length old.all.arrivals in
      let with_it = edits ++ Some (PutsIn number) ∷ [] in
      let arrived = old.all.arrivals ++ newest ∷ [] in
      let its_stamp = own_stamp old.all edits records stands.elements initial_replicas next label offered anchor x is stamp stamped in
      let clocked = some_clock old.all edits records stands.elements initial_replicas next label offered anchor x is stamp stamped in
      let elements = elements_more old.all grown.all edits records next (Some (PutsIn number))
      stands.elements
      (adds_insertion old.all grown.all edits records next m x stamp stands.elements makes within new
      its_stamp clocked offered.stamps admitted its_arrivals its_elements) in
      let lists : AreListsOf (set old.lists.items next.by list) arrived with_it now =
      lists_with old.lists.items next.by list arrived with_it now (omega (arith, stands.replicas, offered.replica)) own
      (λ q other differ at.
      list_unchanged_by_others-insertion other old.all newest edits records q next stands.elements
      (stands.lists q other at) differ makes admitted) in
      record {
        elements = subst (λ ds. AreElementsOf grown.all ds now) (sym its_edits) elements;
        replicas = ap length its_lists ∙ length-set old.lists.items next.by list ∙ stands.replicas;
        lists =
            subst (λ ds. AreListsOf grown.lists.items grown.all.arrivals ds now) (sym its_edits)
            (subst (λ rs. AreListsOf grown.lists.items rs with_it now) (sym its_arrivals)
            (subst (λ ls. AreListsOf ls arrived with_it now) (sym its_lists) lists));
        few = omega (arith, stands.few, ap length its_arrivals, length-append old.all.arrivals (newest ∷ []));
      }
