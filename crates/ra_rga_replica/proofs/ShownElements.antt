-- Lemmas on the shown elements after one more label.
use Rattle.std.proofs.Common.{◌≡◌, ℕ, ◌<◌, ◌≤◌, Bool, true, false, List, length, Option, Some, refl, sym, ap, ◌∙◌, subst, inl, inr, arith}
use Rattle.std.specs.Prelude.{◌==◌, ◌||◌, ◌&&◌, not}
use Rattle.std.specs.List.{list_any}
use Rattle.std.proofs.lemmas.Bool.{false≢true, cases_Bool, cases_eq, cases_lt, eq-eqb, ne_eqb, eqb-true}
use Rattle.std.proofs.lemmas.List.{get_or_past}
use Rattle.std.proofs.lemmas.List.Sorted.{Contains-permutation, IsPermutation-sym}
use Rattle.ra_labels.specs.declared.kind.Kind.TheVariants.{Rga}
use Rattle.ra_labels.specs.Records.{Records, labels_of}
use Rattle.ra_labels.specs.NamedOrder.{named_labels}
use Rattle.ra_labels.specs.Insertion.{updates_among, updates_passing, or_label}
use Rattle.ra_labels.specs.Pending.{inserts_element, removes_element, is_present_element, NonePending}
use Rattle.ra_labels.proofs.InLists.{bool_same}
use Rattle.ra_theorems.proofs.TheoremIndex.{updates_passing_insert-place, updates_passing_insert-there, named_labels_sorted-same}
use Rattle.ra_rga_elements.specs.ElementList.{Arrival, is_marked}
use Rattle.ra_rga_replica.specs.declared.edit.Edit.{Edit}
use Rattle.ra_rga_replica.specs.declared.edit.Edit.TheVariants.{PutsIn, Removes}
use Rattle.ra_rga_replica.specs.Edits.{edit_at, element_at, update_of, AreEditsOf}
use Rattle.ra_rga_replica.specs.ReplicaList.{is_shown_element, AreThere, AreShown}
use Rattle.ra_rga_replica.specs.Cascade.{shown_with}
use Rattle.ra_rga_replica.proofs.Edits.{put_in_other, puts_same, marked_label}
use Rattle.ra_rga_replica.proofs.Removals.{removed_by, removed_with}

-- tests that agree show the same
pub shown_alike : {shows next : ℕ → Bool} {arrivals : List Arrival} {records : Records} {settled : ℕ → Bool}
    → ((number : ℕ) → next number ≡ shows number) → AreShown shows arrivals records settled
    → AreShown next arrivals records settled
shown_alike same shown = record {
  shown = λ number known. same number ∙ shown.shown number known;
  others = λ number beyond. same number ∙ shown.others number beyond;
}

-- how two tests combine
put_bools : (p z r : Bool) → (p && not (z || r)) ≡ ((p || false) && not (z || (r || false)))
put_bools true true r = refl
put_bools true false true = refl
put_bools true false false = refl
put_bools false true r = refl
put_bools false false true = refl
put_bools false false false = refl

removal_bools : (p z r b : Bool) → ((p && not (z || r)) && not b) ≡ ((p || false) && not (z || (r || b)))
removal_bools true true r b = refl
removal_bools true false true b = refl
removal_bools true false false b = refl
removal_bools false true r b = refl
removal_bools false false true b = refl
removal_bools false false false b = refl

put_there : (p z r : Bool) → z ≡ false → r ≡ false → true ≡ ((p || true) && not (z || (r || false)))
put_there true z r not_root none = λ i. not (sym not_root i || (sym none i || false))
put_there false z r not_root none = λ i. not (sym not_root i || (sym none i || false))

or_false : (b : Bool) → (b || false) ≡ b
or_false true = refl
or_false false = refl

or_true : (b : Bool) → (b || true) ≡ true
or_true true = refl
or_true false = refl

module _ {arrivals : List Arrival} {edits : List (Option Edit)} {records : Records}
    (stand : AreEditsOf arrivals edits records) {shows : ℕ → Bool} {marks : List Bool} {passes : ℕ → Bool}
    (none : NonePending records passes) (there : AreThere marks arrivals records passes)
    (shown : AreShown shows arrivals records passes) where
  -- an element that a label inserts was not removed before it
  not_removed : (n k : ℕ) → edit_at edits n ≡ Some (PutsIn k) → passes n ≡ false
      → list_any (removes_element (element_at arrivals k)) (updates_passing Rga records passes) ≡ false
  not_removed n k is new =
      elim (cases_Bool (list_any (removes_element (element_at arrivals k)) (updates_passing Rga records passes))) [
        | inl removed ↦
            let (m, found, passed, makes) = removed_by passes (named_labels Rga records) (element_at arrivals k) removed in
            let m_in = Contains-permutation (named_labels Rga records) (labels_of records) m
            (IsPermutation-sym (labels_of records) (named_labels Rga records) (named_labels_sorted-same Rga records)) found in
            let present = none m _ m_in makes passed in
            absurd (false≢true (sym new ∙ sym (marked_label stand there n k is)
            ∙ there.there k (stand.known n (PutsIn k) is) ∙ present))
        | inr never ↦ never
      ]

  module _ (n : ℕ) (edit : Edit) (is : edit_at edits n ≡ Some edit) (new : passes n ≡ false) where
    -- the element of a number, with the update of the label
    with_update : (number : ℕ) → is_shown_element (element_at arrivals number)
        (updates_passing Rga records (or_label passes n))
        ≡ ((is_present_element (element_at arrivals number) (updates_passing Rga records passes)
        || inserts_element (element_at arrivals number) (update_of arrivals edit))
        && not (element_at arrivals number == 0
        || (list_any (removes_element (element_at arrivals number)) (updates_passing Rga records passes)
        || removes_element (element_at arrivals number) (update_of arrivals edit))))
    with_update number =
        let x = element_at arrivals number in
        let (l, l_in, l_num, l_makes) = stand.makes n edit is in
        let u = update_of arrivals edit in
        let (before, behind, order, was, now) =
        updates_passing_insert-place Rga records passes l u l_in l_makes (ap passes l_num ∙ new) in
        let present = updates_passing_insert-there Rga records passes l u x l_in l_makes (ap passes l_num ∙ new) in
        let removed = ap (list_any (removes_element x)) now ∙ removed_with x (updates_among passes before) (updates_among passes behind) u
        ∙ ap (λ us. list_any (removes_element x) us || removes_element x u) (sym was) in
        subst (λ (m : ℕ). is_shown_element x (updates_passing Rga records (or_label passes m))
        ≡ ((is_present_element x (updates_passing Rga records passes) || inserts_element x u)
        && not (x == 0 || (list_any (removes_element x) (updates_passing Rga records passes) || removes_element x u))))
        l_num (λ i. present i && not (x == 0 || removed i))

  -- the shown elements with the label
  with_edit : (n : ℕ) (edit : Edit) → edit_at edits n ≡ Some edit → passes n ≡ false → (number : ℕ)
      → number < length arrivals → shown_with (Some edit) shows number
      ≡ is_shown_element (element_at arrivals number) (updates_passing Rga records (or_label passes n))
  with_edit n (PutsIn k) is new number known =
      let x = element_at arrivals number in
      let ups = updates_passing Rga records passes in
      let p = is_present_element x ups in
      let z = x == 0 in
      let r = list_any (removes_element x) ups in
      let same = puts_same stand n (PutsIn k) is number known in
      elim (cases_eq number k) [
        | inl here ↦
            let hit : (number == k) ≡ true = eq-eqb number k here in
            let not_root : z ≡ false = ne_eqb x 0 (λ root. put_in_other stand n k is
            (ap (λ (m : ℕ). element_at arrivals m) (sym here) ∙ root)) in
            let never : r ≡ false = ap (λ (m : ℕ). list_any (removes_element (element_at arrivals m)) ups) here
            ∙ not_removed n k is new in
            ap (λ b. shows number || b) hit ∙ or_true (shows number)
            ∙ put_there p z r not_root never
            ∙ ap (λ b. (p || b) && not (z || (r || false))) (sym (same ∙ hit))
            ∙ sym (with_update n (PutsIn k) is new number)
        | inr other ↦
            let miss : (number == k) ≡ false = ne_eqb number k other in
            ap (λ b. shows number || b) miss ∙ or_false (shows number) ∙ shown.shown number known
            ∙ put_bools p z r
            ∙ ap (λ b. (p || b) && not (z || (r || false))) (sym (same ∙ miss))
            ∙ sym (with_update n (PutsIn k) is new number)
      ]
  with_edit n (Removes k) is new number known =
      let x = element_at arrivals number in
      let ups = updates_passing Rga records passes in
      let p = is_present_element x ups in
      let z = x == 0 in
      let r = list_any (removes_element x) ups in
      let same : (number == k) ≡ (element_at arrivals k == x) =
      bool_same (number == k) (element_at arrivals k == x)
      (λ hit. eq-eqb (element_at arrivals k) x (ap (λ (m : ℕ). element_at arrivals m) (sym (eqb-true number k hit))))
      (λ hit. eq-eqb number k (stand.once number k known (stand.known n (Removes k) is)
      (sym (eqb-true (element_at arrivals k) x hit)))) in
      (λ i. shown.shown number known i && not (same i))
      ∙ removal_bools p z r (element_at arrivals k == x)
      ∙ sym (with_update n (Removes k) is new number)

  beyond_edit : (n : ℕ) (edit : Edit) → edit_at edits n ≡ Some edit → (number : ℕ)
      → length arrivals ≤ number → shown_with (Some edit) shows number ≡ false
  beyond_edit n (PutsIn k) is number beyond =
      let miss : (number == k) ≡ false =
      ne_eqb number k (λ same. omega (arith, same, beyond, stand.known n (PutsIn k) is)) in
      λ i. shown.others number beyond i || miss i
  beyond_edit n (Removes k) is number beyond = ap (λ b. b && not (number == k)) (shown.others number beyond)

  pub shown_step : (next : ℕ → Bool) (n : ℕ) (edit : Edit) → edit_at edits n ≡ Some edit → passes n ≡ false
      → ((number : ℕ) → next number ≡ shown_with (Some edit) shows number)
      → AreShown next arrivals records (or_label passes n)
  shown_step next n edit is new with_it = record {
    shown = λ number known. with_it number ∙ with_edit n edit is new number known;
    others = λ number beyond. with_it number ∙ beyond_edit n edit is number beyond;
  }

-- a marked number is within the marks
pub marked_within : (marks : List Bool) (n : ℕ) → is_marked marks n ≡ true → n < length marks
marked_within marks n is = elim (cases_lt n (length marks)) [
  | inl within ↦ within
  | inr past ↦ absurd (false≢true (sym (get_or_past marks n false past) ∙ is))
]
