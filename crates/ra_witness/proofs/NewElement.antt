-- Lemmas on the elements of all labels after one more label that inserts an element.
use Rattle.std.proofs.Common.{◌≡◌, ℕ, zero, suc, ◌<◌, ◌≤◌, ◌+◌, Bool, true, false, cond, List, [], ◌∷◌, ◌++◌, length, Option, Some, refl, sym, ap, ◌∙◌, subst, inl, inr, arith, length-append}
use Rattle.std.specs.Prelude.{◌==◌, Contains}
use Rattle.std.specs.Ordering.{is_lt}
use Rattle.std.proofs.lemmas.Bool.{cases_lt, eq-eqb, ne_eqb}
use Rattle.std.proofs.lemmas.Option.{same_Some}
use Rattle.std.proofs.lemmas.List.{get_or_append_left, get_or_at}
use Rattle.ra_labels.specs.declared.kind.Kind.TheVariants as variant
use Rattle.ra_labels.specs.declared.operation.Update.TheVariants.{After}
use Rattle.ra_labels.specs.declared.label.Label.{Label}
use Rattle.ra_labels.specs.declared.label.Stamp.{Stamp}
use Rattle.ra_labels.specs.Records.{Records, label_count, labels_of}
use Rattle.ra_labels.specs.NamedOrder.{named_sequence, stamp_cmp, lowest_rank, label_cmp}
use Rattle.ra_labels.specs.Linearization.{updates_admitted}
use Rattle.ra_labels.specs.TheoremTerms.{elements_in, StampsAreUnique}
use Rattle.ra_labels.specs.Late.{insert_late_after}
use Rattle.ra_labels.specs.Insertion.{HasUpdate}
use Rattle.ra_labels.specs.HistorySoFar.{NextOperation, operate, label_of}
use Rattle.ra_labels.proofs.Members.{at_head, behind_head}
use Rattle.ra_labels.proofs.StampOrder.{below_tested}
use Rattle.ra_theorems.proofs.TheoremIndex.{operation_update_unique-one, new_label_in_full_list-insertion, stamped_labels_sorted}
use Rattle.ra_rga_elements.specs.ElementList.{Arrival, ElementList, root, arrival_at, IsBelowByStamp}
use Rattle.ra_rga_replica.specs.declared.edit.Edit.{Edit}
use Rattle.ra_rga_replica.specs.declared.edit.Edit.TheVariants.{PutsIn}
use Rattle.ra_rga_replica.specs.Edits.{element_at, number_of, update_of, AreElementsOf}
use Rattle.ra_witness.proofs.TakenLabels.{label_below}
use Rattle.ra_witness.proofs.AllElements.{its_number}
use Rattle.ra_witness.proofs.NewLabel.{Adds, list_after}

-- the stamp of the label that inserted the element
stamp_of : List Arrival → ℕ → Stamp
stamp_of [] y = lowest_rank
stamp_of (a ∷ as') y = cond (a.element == y) a.stamp (stamp_of as' y)

abbrev AreOnce : List Arrival → Type 0
AreOnce rs = (m n : ℕ) → m < length rs → n < length rs → element_at rs m ≡ element_at rs n → m ≡ n

stamp_found : (rs : List Arrival) → AreOnce rs → (n : ℕ) → n < length rs → stamp_of rs (element_at rs n) ≡ (arrival_at rs n).stamp
unfolding stamp_of
stamp_found [] once n within = absurd (omega (arith, within))
stamp_found (r ∷ rs) once zero within = ap (λ b. cond b r.stamp (stamp_of rs r.element)) (eq-eqb r.element r.element refl)
stamp_found (r ∷ rs) once (suc n) within =
    ap (λ b. cond b r.stamp (stamp_of rs (element_at rs n)))
    (ne_eqb r.element (element_at rs n) (λ same. let here = once 0 (suc n) (omega arith) within same in omega (arith, here)))
    ∙ stamp_found rs (λ i j a b same. let later = once (suc i) (suc j) (omega (arith, a)) (omega (arith, b)) same in omega (arith, later)) n (omega (arith, within))

not_less : (b : Bool) → ¬ (b ≡ true) → b ≡ false
not_less true other = absurd (other refl)
not_less false other = refl

module _ (all grown : ElementList) (edits : List (Option Edit)) (records : Records) (next : NextOperation) (m x : ℕ) (stamp : Stamp)
    (are : AreElementsOf all edits records) (makes : HasUpdate next.op (After (element_at all.arrivals m) x)) (within : m < length all.arrivals)
    (new : (n : ℕ) → n < length all.arrivals → ¬ (element_at all.arrivals n ≡ x)) (stamped : (label_of records next).stamp ≡ Some stamp)
    (clocked : 1 ≤ stamp.clock) (stamps : StampsAreUnique (operate next ∷ records))
    (admitted : updates_admitted variant.Rga (named_sequence variant.Rga (operate next ∷ records)) ≡ true)
    (arrivals : grown.arrivals ≡ all.arrivals ++ record { element = x; stamp = stamp; anchor = m } ∷ [])
    (elements : (below : ℕ → ℕ → Bool) (list : List (ℕ × Bool)) → IsBelowByStamp below x stamp all.arrivals → elements_in list ≡ all.elements
    → grown.elements ≡ elements_in (insert_late_after below (arrival_at all.arrivals m).element x list)) where
  abbrev now : Records
  now = operate next ∷ records

  abbrev own : Label
  own = label_of records next

  abbrev newest : Arrival
  newest = record { element = x; stamp = stamp; anchor = m }

  abbrev number : ℕ
  number = length all.arrivals

  kept : (n : ℕ) → n < number → arrival_at grown.arrivals n ≡ arrival_at all.arrivals n
  kept n there = ap (λ rs. arrival_at rs n) arrivals ∙ get_or_append_left all.arrivals (newest ∷ []) root n there

  is_newest : arrival_at grown.arrivals number ≡ newest
  is_newest = ap (λ rs. arrival_at rs number) arrivals ∙ get_or_at all.arrivals newest [] root number refl

  count : length grown.arrivals ≡ number + 1
  count = omega (arith, ap length arrivals, length-append all.arrivals (newest ∷ []))

  its_update : update_of grown.arrivals (PutsIn number) ≡ After (element_at all.arrivals m) x
  its_update =
      ap (λ (a : Arrival). After (element_at grown.arrivals a.anchor) a.element) is_newest
      ∙ ap (λ (a : Arrival). After a.element x) (kept m within)

  its_edit : (edit : Edit) → Some (PutsIn number) ≡ Some edit → PutsIn number ≡ edit
  its_edit edit is = same_Some (PutsIn number) edit is

  its_own_number : (n : ℕ) → Some (PutsIn number) ≡ Some (PutsIn n) → number ≡ n
  its_own_number n is = cc (is)

  once_more : (i j : ℕ) → i < length grown.arrivals → j < length grown.arrivals → element_at grown.arrivals i ≡ element_at grown.arrivals j → i ≡ j
  once_more i j there_i there_j same = elim (cases_lt i number) [
    | inl old_i ↦ elim (cases_lt j number) [
      | inl old_j ↦ are.once i j old_i old_j (sym (ap (λ (a : Arrival). a.element) (kept i old_i)) ∙ same ∙ ap (λ (a : Arrival). a.element) (kept j old_j))
      | inr new_j ↦
          let at : j ≡ number = omega (arith, new_j, there_j, count) in
          absurd (new i old_i (sym (ap (λ (a : Arrival). a.element) (kept i old_i)) ∙ same ∙ ap (λ k. element_at grown.arrivals k) at ∙ ap (λ (a : Arrival). a.element) is_newest))
    ]
    | inr new_i ↦ elim (cases_lt j number) [
      | inl old_j ↦
          let at : i ≡ number = omega (arith, new_i, there_i, count) in
          absurd (new j old_j (sym (ap (λ (a : Arrival). a.element) (kept j old_j)) ∙ sym same ∙ ap (λ k. element_at grown.arrivals k) at ∙ ap (λ (a : Arrival). a.element) is_newest))
      | inr new_j ↦ omega (arith, new_i, new_j, there_i, there_j, count)
    ]
  ]

  -- element y has a greater stamp than the new label
  abbrev below : ℕ → ℕ → Bool
  below a y = is_lt (stamp_cmp stamp (stamp_of all.arrivals y))

  below_by_stamp : IsBelowByStamp below x stamp all.arrivals
  below_by_stamp n there = ap (λ s. is_lt (stamp_cmp stamp s)) (stamp_found all.arrivals are.once n there)

  root_stamp : stamp_of all.arrivals 0 ≡ lowest_rank
  root_stamp =
      ap (stamp_of all.arrivals) (sym (ap (λ (a : Arrival). a.element) are.first))
      ∙ stamp_found all.arrivals are.once 0 are.some
      ∙ ap (λ (a : Arrival). a.stamp) are.first

  not_below_lowest : is_lt (stamp_cmp stamp lowest_rank) ≡ true → ⊥
  not_below_lowest is = elim (below_tested stamp lowest_rank is) [
    | inl lower ↦ omega (arith, lower)
    | inr (same, lower) ↦ omega (arith, same, clocked)
  ]

  not_below_root : below x 0 ≡ false
  not_below_root = not_less (below x 0) (λ is. not_below_lowest (ap (λ s. is_lt (stamp_cmp stamp s)) (sym root_stamp) ∙ is))

  others_stand : (other : Label) (behind y : ℕ) → Contains (labels_of records) other → HasUpdate other.op (After behind y)
      → below x y ≡ is_lt (label_cmp variant.Rga now own other)
  others_stand other behind y there does =
      let (n, as_number) = its_number all edits records are other behind y there does in
      let t = (arrival_at all.arrivals n).stamp in
      let stands : label_cmp variant.Rga now own other ≡ stamp_cmp stamp t =
      stamped_labels_sorted variant.Rga now own other stamp t (inr (inr refl)) stamped as_number.stamp (λ same.
      let one = stamps own other stamp (at_head own (labels_of records) own refl) (behind_head own (labels_of records) other there) stamped (as_number.stamp ∙ ap Some (sym same)) in
      let its : label_count records ≡ other.number = ap (λ (l : Label). l.number) one in
      let lower = label_below records other there in
      omega (arith, its, lower)) in
      ap (below x) (sym as_number.is) ∙ below_by_stamp n as_number.within ∙ ap is_lt (sym stands)

  pub adds_insertion : Adds all grown edits records next (Some (PutsIn number))
  adds_insertion = record {
    kept = kept;
    longer = omega (arith, count);
    made = λ update does. (PutsIn number, refl, its_update ∙ operation_update_unique-one next.op (After (element_at all.arrivals m) x) update makes does);
    makes = λ edit is. subst (λ d. HasUpdate next.op (update_of grown.arrivals d)) (its_edit edit is) (subst (λ u. HasUpdate next.op u) (sym its_update) makes);
    known = λ edit is. subst (λ d. number_of d < length grown.arrivals) (its_edit edit is) (omega (arith, count));
    stamp = λ n is. stamped ∙ ap (λ (a : Arrival). Some a.stamp) (sym is_newest) ∙ ap (λ k. Some (arrival_at grown.arrivals k).stamp) (its_own_number n is);
    unstamped = λ n is. absurd (cc (is));
    came = λ n after there. let at : number ≡ n = omega (arith, after, there, count) in ap (λ k. Some (PutsIn k)) at;
    anchored = λ n after there.
        let at : n ≡ number = omega (arith, after, there, count) in
        let anchor : (arrival_at grown.arrivals n).anchor ≡ m = ap (λ k. (arrival_at grown.arrivals k).anchor) at ∙ ap (λ (a : Arrival). a.anchor) is_newest in
        omega (arith, anchor, within, count);
    once = once_more;
    listed =
        let (list, led) = list_after now admitted in
        let put = new_label_in_full_list-insertion records next (element_at all.arrivals m) x are.listed.0 list below makes are.listed.1 led not_below_root others_stand in
        (list, led, ap elements_in put ∙ sym (elements below are.listed.0 below_by_stamp are.listed.2));
  }
