-- Lemmas on when the updates of all labels of an RGA, including a new one, are admitted, in terms of element numbers.
use Rattle.std.proofs.Common.{◌≡◌, ℕ, ◌<◌, ◌≤◌, Bool, true, false, List, [], ◌∷◌, length, Option, Some, None, refl, sym, ap, ◌∙◌, subst, inl, inr, arith, Ordering}
use Rattle.std.specs.Prelude.{◌⊎◌, ◌↔◌, Contains, not, is_some}
use Rattle.std.specs.Ordering.{nat_cmp, is_lt, is_le, ordering_then}
use Rattle.std.specs.declared.cmp.Ordering.TheVariants.{Less, Equal, Greater}
use Rattle.std.proofs.lemmas.Cmp.{nat_cmp_total, tied_itself}
use Rattle.std.proofs.lemmas.Bool.{cases_eq, true≢false, false≢true}
use Rattle.std.proofs.lemmas.Option.{same_Some}
use Rattle.ra_labels.specs.declared.kind.Kind.TheVariants as variant
use Rattle.ra_labels.specs.declared.operation.Op.{Op}
use Rattle.ra_labels.specs.declared.operation.Op.TheVariants as ops
use Rattle.ra_labels.specs.declared.operation.Update.TheVariants.{After, RgaRemove}
use Rattle.ra_labels.specs.declared.label.Label.{Label}
use Rattle.ra_labels.specs.declared.label.Stamp.{Stamp}
use Rattle.ra_labels.specs.Records.{Records, label_count, labels_of, stamp_at}
use Rattle.ra_labels.specs.Rewriting.{Whole, Does, updates_of}
use Rattle.ra_labels.specs.NamedOrder.{named_sequence, stamp_cmp, lowest_rank, label_cmp, timestamp_of}
use Rattle.ra_labels.specs.Linearization.{updates_admitted}
use Rattle.ra_labels.specs.Answer.{carries_stamp}
use Rattle.ra_labels.specs.Insertion.{HasUpdate}
use Rattle.ra_labels.specs.Pending.{is_present_element, WasInsertedBelow}
use Rattle.ra_labels.proofs.Members.{head_or_behind, at_head, behind_head}
use Rattle.ra_labels.proofs.StampOrder.{not_below_itself, is_less}
use Rattle.ra_labels.proofs.Comparisons.{less_cmp}
use Rattle.ra_labels.specs.HistorySoFar.{history_of, NextOperation, operate, label_of}
use Rattle.ra_theorems.proofs.TheoremIndex.{new_update_admitted_iff_dependency_below-insertion, new_update_admitted_iff_dependency_below-removal, stamped_labels_sorted, stamp_order_lexicographic-less, timestamp_is_greatest_seen-own}
use Rattle.ra_rga_elements.specs.ElementList.{Arrival, ElementList, arrival_at}
use Rattle.ra_rga_replica.specs.declared.edit.Edit.{Edit}
use Rattle.ra_rga_replica.specs.Edits.{element_at, AreElementsOf}
use Rattle.ra_witness.specs.Offered.{IsOffered}
use Rattle.ra_witness.proofs.TakenLabels.{label_below}
use Rattle.ra_witness.proofs.Forms.{has_stamp, its_clock}
use Rattle.ra_witness.proofs.AllElements.{its_label, its_number, there_numbered, numbered_there}

less_to : (o : Ordering) → o ≡ Less → is_lt o ≡ true
less_to o is = ap is_lt is

then_less : (o p : Ordering) → ordering_then o p ≡ Less → (o ≡ Less) ⊎ (p ≡ Less)
then_less Less p is = inl refl
then_less Equal p is = inr is
then_less Greater p is = absurd (cc (is))

-- no label is below itself
not_below_own : (records : Records) (l : Label) → label_cmp variant.Rga records l l ≡ Less → ⊥
not_below_own records l is =
    let r = timestamp_of records l in
    elim (then_less (stamp_cmp r r) (nat_cmp l.number l.number) is) [
      | inl less ↦ not_below_itself r r refl ((stamp_order_lexicographic-less r r).0 less)
      | inr less ↦ let e : Equal ≡ Less = sym (tied_itself nat_cmp_total l.number) ∙ less in cc (e)
    ]

le_then : (o : Ordering) → is_le o ≡ true → ordering_then o Less ≡ Less
le_then Less is = refl
le_then Equal is = refl
le_then Greater is = absurd (false≢true is)

then_le : (o : Ordering) → ordering_then o Less ≡ Less → is_le o ≡ true
then_le Less is = refl
then_le Equal is = refl
then_le Greater is = absurd (cc (is))

pub none_found : (r : Option ℕ) (b : Bool) → is_some r ≡ not b → b ≡ true → (n : ℕ) → ¬ (r ≡ Some n)
none_found r b is passes n found = true≢false (sym (ap is_some found) ∙ is ∙ ap not passes)

pub none_from : (r : Option ℕ) (b : Bool) → is_some r ≡ not b → ((n : ℕ) → ¬ (r ≡ Some n)) → b ≡ true
none_from None true is none = refl
none_from None false is none = is
none_from (Some n) b is none = absurd (none n refl)

pub makes_after : (op : Op) (anchor x : ℕ) → op ≡ ops.After anchor x → HasUpdate op (After anchor x)
makes_after op anchor x is = subst (λ o. HasUpdate o (After anchor x)) (sym is)
    (Whole, at_head (Whole, Does (After anchor x)) [] (Whole, Does (After anchor x)) refl)

pub makes_removal : (op : Op) (x : ℕ) → op ≡ ops.RgaRemove x → HasUpdate op (RgaRemove x)
makes_removal op x is = subst (λ o. HasUpdate o (RgaRemove x)) (sym is)
    (Whole, at_head (Whole, Does (RgaRemove x)) [] (Whole, Does (RgaRemove x)) refl)

module _ (all : ElementList) (edits : List (Option Edit)) (records : Records) (are : AreElementsOf all edits records)
    (initial_replicas : ℕ) (next : NextOperation) (label : Label) (offered : IsOffered (history_of variant.Rga initial_replicas records) next label) where
  abbrev now : Records
  now = operate next ∷ records

  abbrev own : Label
  own = label_of records next

  abbrev AreAdmitted : Type 0
  AreAdmitted = updates_admitted variant.Rga (named_sequence variant.Rga now) ≡ true

  -- the element is not in the list
  abbrev pub IsNew : ℕ → Type 0
  IsNew x = (n : ℕ) → n < length all.arrivals → ¬ (element_at all.arrivals n ≡ x)

  new_there : (x : ℕ) → IsNew x → is_present_element x (updates_of (named_sequence variant.Rga records)) ≡ false
  new_there x new = by_test (is_present_element x (updates_of (named_sequence variant.Rga records))) refl
    where
      by_test : (b : Bool) → is_present_element x (updates_of (named_sequence variant.Rga records)) ≡ b
          → is_present_element x (updates_of (named_sequence variant.Rga records)) ≡ false
      by_test false is = is
      by_test true is = let (n, within, same) = there_numbered all edits records are x is in absurd (new n within same)

  module _ (anchor x : ℕ) (is : next.op ≡ ops.After anchor x) (stamp : Stamp) (stamped : label.stamp ≡ Some stamp) where
    pub own_stamp : own.stamp ≡ Some stamp
    own_stamp = sym (ap (λ (l : Label). l.stamp) offered.becomes) ∙ stamped

    pub some_clock : 1 ≤ stamp.clock
    some_clock =
        let (at, clock, least, known) = has_stamp (history_of variant.Rga initial_replicas records) next label offered (ap carries_stamp is) in
        let same : stamp ≡ stamp_at next.by at = same_Some stamp (stamp_at next.by at) (sym stamped ∙ known) in
        let clocks = ap (λ (s : Stamp). s.clock) same in
        omega (arith, least, clocks)

    -- labels with stamps stand in the order of their stamps
    other_stands : (other : Label) (t : Stamp) → Contains (labels_of records) other → other.stamp ≡ Some t
        → label_cmp variant.Rga now other own ≡ stamp_cmp t stamp
    other_stands other t there at =
        stamped_labels_sorted variant.Rga now other own t stamp (inr (inr refl)) at own_stamp
        (λ same.
        let one = offered.stamps other own stamp (behind_head own (labels_of records) other there)
        (at_head own (labels_of records) own refl) (at ∙ ap Some same) own_stamp in
        let number : other.number ≡ label_count records = ap (λ (l : Label). l.number) one in
        let within = label_below records other there in
        omega (arith, number, within))

    -- admitted exactly if the new element is absent, and its anchor is the root or was inserted by a smaller label
    decides : AreAdmitted ↔ ((is_present_element x (updates_of (named_sequence variant.Rga records)) ≡ false)
        × ((anchor ≡ 0) ⊎ WasInsertedBelow now own anchor))
    decides =
        new_update_admitted_iff_dependency_below-insertion records next
        anchor x (makes_after next.op anchor x is) offered.holds.updates

    -- the anchor's number and stamp decide
    pub insertion_admitted : (m : ℕ) → m < length all.arrivals → element_at all.arrivals m ≡ anchor
        → is_lt (stamp_cmp (arrival_at all.arrivals m).stamp stamp) ≡ true → IsNew x → AreAdmitted
    insertion_admitted m within is_anchor less new =
        decides.1 (
          new_there x new,
          elim (cases_eq m 0) [
            | inl root_is ↦
                inl (sym is_anchor ∙ ap (element_at all.arrivals) root_is ∙ ap (λ (a : Arrival). a.element) are.first)
            | inr other ↦
                let (it, there, makes, at) = its_label all edits records are m (omega (arith, other)) within in
                let from = element_at all.arrivals (arrival_at all.arrivals m).anchor in
                inr (
                  it,
                  from,
                  behind_head own (labels_of records) it there,
                  subst (λ y. HasUpdate it.op (After from y)) is_anchor makes,
                  other_stands it (arrival_at all.arrivals m).stamp there at
                      ∙ is_less (stamp_cmp (arrival_at all.arrivals m).stamp stamp) less,
                )
          ],
        )

    abbrev NeedsOf : Type 0
    NeedsOf = (m : ℕ) × (m < length all.arrivals) × (element_at all.arrivals m ≡ anchor)
        × (is_lt (stamp_cmp (arrival_at all.arrivals m).stamp stamp) ≡ true)

    -- if the updates are admitted, the element is new and its anchor has a smaller stamp
    pub insertion_new : AreAdmitted → IsNew x
    insertion_new admitted n within same =
        true≢false (sym (numbered_there all edits records are x n within same) ∙ (decides.0 admitted).0)

    root_below : is_lt (stamp_cmp lowest_rank stamp) ≡ true
    root_below = less_to (stamp_cmp lowest_rank stamp)
        ((stamp_order_lexicographic-less lowest_rank stamp).1 (inl (omega (arith, some_clock))))

    pub insertion_needs : AreAdmitted → NeedsOf
    insertion_needs admitted = elim ((decides.0 admitted).1) [
      | inl root_is ↦ (
        0,
        are.some,
        ap (λ (a : Arrival). a.element) are.first ∙ sym root_is,
        ap (λ (a : Arrival). is_lt (stamp_cmp a.stamp stamp)) are.first ∙ root_below,
      )
      | inr (other, a, there, makes, less) ↦ elim (head_or_behind own (labels_of records) other there) [
        | inl newest ↦ absurd (not_below_own now own (ap (λ l. label_cmp variant.Rga now l own) newest ∙ less))
        | inr old ↦
            let (m, as_number) = its_number all edits records are other a anchor old makes in (
              m,
              as_number.within,
              as_number.is,
              ap is_lt (sym (other_stands other (arrival_at all.arrivals m).stamp old as_number.stamp))
                  ∙ less_to (label_cmp variant.Rga now other own) less,
            )
      ]
    ]

  module _ (x : ℕ) (is : next.op ≡ ops.RgaRemove x) where
    pub unclocked : next.clock ≡ None
    unclocked = (its_clock (history_of variant.Rga initial_replicas records) next label offered).1 (ap carries_stamp is)

    module _ (greatest : Stamp) (ranks : timestamp_of now own ≡ greatest) where
      -- a removal stands behind the labels of equal rank
      other_ranks : (other : Label) (t : Stamp) → Contains (labels_of records) other → other.stamp ≡ Some t
          → label_cmp variant.Rga now other own ≡ ordering_then (stamp_cmp t greatest) Less
      other_ranks other t there at =
          ap (λ s. ordering_then (stamp_cmp s (timestamp_of now own)) (nat_cmp other.number (label_count records)))
          (timestamp_is_greatest_seen-own now other t at)
          ∙ ap (λ s. ordering_then (stamp_cmp t s) (nat_cmp other.number (label_count records))) ranks
          ∙ ap (λ o. ordering_then (stamp_cmp t greatest) o)
          (less_cmp other.number (label_count records) (label_below records other there))

      -- admitted exactly if the removed element is not the root and was inserted by a smaller label
      decided : AreAdmitted ↔ ((¬ (x ≡ 0)) × WasInsertedBelow now own x)
      decided =
          new_update_admitted_iff_dependency_below-removal records next
          x (makes_removal next.op x is) offered.holds.updates

      pub removal_admitted : (n : ℕ) → 0 < n → n < length all.arrivals → element_at all.arrivals n ≡ x
          → is_le (stamp_cmp (arrival_at all.arrivals n).stamp greatest) ≡ true → AreAdmitted
      removal_admitted n some within is_it ranked_below =
          let (it, there, makes, at) = its_label all edits records are n some within in
          let from = element_at all.arrivals (arrival_at all.arrivals n).anchor in
          decided.1 (
            (λ root_is.
                let zero_is = are.once n 0 within are.some
                (is_it ∙ root_is ∙ sym (ap (λ (a : Arrival). a.element) are.first)) in
                omega (arith, some, zero_is)),
            (
              it,
              from,
              behind_head own (labels_of records) it there,
              subst (λ y. HasUpdate it.op (After from y)) is_it makes,
              other_ranks it (arrival_at all.arrivals n).stamp there at
                  ∙ le_then (stamp_cmp (arrival_at all.arrivals n).stamp greatest) ranked_below,
            ),
          )

      pub record IsRemovable : Type 0 where
        pub number : ℕ
        pub some : ¬ (x ≡ 0)
        pub within : number < length all.arrivals
        pub is_it : element_at all.arrivals number ≡ x
        pub ranked_below : is_le (stamp_cmp (arrival_at all.arrivals number).stamp greatest) ≡ true

      pub removal_needs : AreAdmitted → IsRemovable
      removal_needs admitted =
          let (some, (other, a, there, makes, less)) = decided.0 admitted in
          elim (head_or_behind own (labels_of records) other there) [
            | inl newest ↦ absurd (not_below_own now own (ap (λ l. label_cmp variant.Rga now l own) newest ∙ less))
            | inr old ↦
                let (m, as_number) = its_number all edits records are other a x old makes in
                record {
                  number = m;
                  some = some;
                  within = as_number.within;
                  is_it = as_number.is;
                  ranked_below = then_le (stamp_cmp (arrival_at all.arrivals m).stamp greatest)
                      (sym (other_ranks other (arrival_at all.arrivals m).stamp old as_number.stamp) ∙ less);
                }
          ]
