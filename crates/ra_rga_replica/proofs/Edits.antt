-- Lemmas on edits and their labels.
use Rattle.std.proofs.Common.{◌≡◌, ℕ, ◌<◌, ◌≤◌, Bool, true, false, List, length, Option, Some, None, refl, sym, ap, ◌∙◌, subst, inl, inr, arith}
use Rattle.std.specs.Prelude.{◌==◌, ◌||◌}
use Rattle.std.proofs.lemmas.Bool.{eq-eqb, ne_eqb, eqb-true, cases_eq, cases_lt, or_from}
use Rattle.std.proofs.lemmas.Option.{none-some}
use Rattle.std.proofs.lemmas.List.{get_or_past}
use Rattle.ra_labels.specs.declared.kind.Kind.TheVariants.{Rga}
use Rattle.ra_labels.specs.Records.{Records}
use Rattle.ra_labels.specs.Specification.{Listed}
use Rattle.ra_labels.specs.Linearization.{updates_admitted}
use Rattle.ra_labels.specs.NamedOrder.{named_sequence}
use Rattle.ra_labels.specs.Insertion.{updates_passing, or_label}
use Rattle.ra_labels.specs.Pending.{inserts_element, is_present_element, dependency_of}
use Rattle.ra_labels.proofs.InLists.{bool_same}
use Rattle.ra_theorems.proofs.TheoremIndex.{element_inserted_by_one_label-other, element_present_iff_label_passes-label, updates_admitted_iff_state, updates_passing_insert-there}
use Rattle.ra_rga_elements.specs.ElementList.{Arrival, ElementList, arrival_at, is_marked}
use Rattle.ra_rga_replica.specs.declared.edit.Edit.{Edit}
use Rattle.ra_rga_replica.specs.declared.edit.Edit.TheVariants.{PutsIn, Removes}
use Rattle.ra_rga_replica.specs.Edits.{edit_at, element_at, number_of, needed_number, update_of, AreElementsOf, AreEditsOf}
use Rattle.ra_rga_replica.specs.ReplicaList.{AreThere}
use Rattle.ra_rga_replica.specs.Cascade.{puts}

-- a label with an edit is in the list of edits
pub edit_there : (edits : List (Option Edit)) (n : ℕ) (edit : Edit) → edit_at edits n ≡ Some edit → n < length edits
edit_there edits n edit is = elim (cases_lt n (length edits)) [
  | inl below ↦ below
  | inr beyond ↦ absurd (none-some edit (sym (get_or_past edits n None beyond) ∙ is))
]

needed_is : (arrivals : List Arrival) (edit : Edit)
    → dependency_of (update_of arrivals edit) ≡ element_at arrivals (needed_number arrivals edit)
needed_is arrivals (PutsIn number) = refl
needed_is arrivals (Removes number) = refl

-- marks, with the element that the edit inserts
abbrev pub AreMarksWith : List Bool → List Bool → Edit → Type 0
AreMarksWith marks next edit = (number : ℕ) → is_marked next number ≡ (is_marked marks number || puts number edit)

none_beyond : (edit : Edit) (number count : ℕ) → number_of edit < count → count ≤ number → puts number edit ≡ false
none_beyond (PutsIn k) number count known beyond = ne_eqb number k (λ is. omega (arith, is))
none_beyond (Removes k) number count known beyond = refl

module _ {arrivals : List Arrival} {edits : List (Option Edit)} {records : Records}
    (stand : AreEditsOf arrivals edits records) where
  pub needed_known : (n : ℕ) (edit : Edit) → edit_at edits n ≡ Some edit
      → needed_number arrivals edit < length arrivals
  needed_known n (PutsIn number) is = stand.anchored number (stand.known n (PutsIn number) is)
  needed_known n (Removes number) is = stand.known n (Removes number) is

  -- an element that a label inserts is not the root
  pub put_in_other : (n number : ℕ) → edit_at edits n ≡ Some (PutsIn number) → ¬ (element_at arrivals number ≡ 0)
  put_in_other n number is =
      let (k, k_in, k_num, k_makes) = stand.makes n (PutsIn number) is in
      let anchor = element_at arrivals (arrival_at arrivals number).anchor in
      element_inserted_by_one_label-other records k anchor (element_at arrivals number) stand.admitted k_in k_makes

  -- the element that an edit inserts, by number and by element
  pub puts_same : (n : ℕ) (edit : Edit) → edit_at edits n ≡ Some edit → (number : ℕ) → number < length arrivals
      → inserts_element (element_at arrivals number) (update_of arrivals edit) ≡ puts number edit
  puts_same n (PutsIn k) is number known =
      bool_same (element_at arrivals k == element_at arrivals number) (number == k)
      (λ same. eq-eqb number k
      (sym (stand.once k number (stand.known n (PutsIn k) is) known
      (eqb-true (element_at arrivals k) (element_at arrivals number) same))))
      (λ same. eq-eqb (element_at arrivals k) (element_at arrivals number)
      (sym (ap (λ (m : ℕ). element_at arrivals m) (eqb-true number k same))))
  puts_same n (Removes k) is number known = refl

  module _ {marks : List Bool} {passes : ℕ → Bool} (there : AreThere marks arrivals records passes) where
    -- the dependency of a label is present exactly if its number is marked
    pub needed_marked : (n : ℕ) (edit : Edit) → edit_at edits n ≡ Some edit
        → is_present_element (dependency_of (update_of arrivals edit)) (updates_passing Rga records passes)
        ≡ is_marked marks (needed_number arrivals edit)
    needed_marked n edit is =
        ap (λ x. is_present_element x (updates_passing Rga records passes)) (needed_is arrivals edit)
        ∙ sym (there.there (needed_number arrivals edit) (needed_known n edit is))

    -- an element is marked exactly if its label passes
    pub marked_label : (n number : ℕ) → edit_at edits n ≡ Some (PutsIn number) → is_marked marks number ≡ passes n
    marked_label n number is =
        let (k, k_in, k_num, k_makes) = stand.makes n (PutsIn number) is in
        let anchor = element_at arrivals (arrival_at arrivals number).anchor in
        there.there number (stand.known n (PutsIn number) is)
        ∙ element_present_iff_label_passes-label records passes k anchor (element_at arrivals number)
        stand.admitted k_in k_makes
        ∙ ap passes k_num

    -- with one more label, its element is marked as well
    pub there_with : {next : List Bool} (n : ℕ) (edit : Edit) → edit_at edits n ≡ Some edit → passes n ≡ false
        → AreMarksWith marks next edit → AreThere next arrivals records (or_label passes n)
    there_with {next = next} n edit is new with_it =
        let (l, l_in, l_num, l_makes) = stand.makes n edit is in
        let at : AreThere next arrivals records (or_label passes l.number) = record {
          there = λ number known.
              with_it number
              ∙ (λ i. there.there number known i || sym (puts_same n edit is number known) i)
              ∙ sym (updates_passing_insert-there Rga records passes l (update_of arrivals edit)
              (element_at arrivals number) l_in l_makes (ap passes l_num ∙ new));
          others = λ number beyond. with_it number ∙ or_from (is_marked marks number) (puts number edit)
              (there.others number beyond) (none_beyond edit number (length arrivals) (stand.known n edit is) beyond);
        } in
        subst (λ (k : ℕ). AreThere next arrivals records (or_label passes k)) l_num at

module _ {list : ElementList} {edits : List (Option Edit)} {records : Records}
    (stand : AreElementsOf list edits records) where
  pub all_admitted : updates_admitted Rga (named_sequence Rga records) ≡ true
  all_admitted =
      let (all, led, same) = stand.listed in
      (updates_admitted_iff_state Rga (named_sequence Rga records)).1 (Listed all, led)

  pub edits_stand : AreEditsOf list.arrivals edits records
  edits_stand = record {
    admitted = all_admitted;
    made = stand.made;
    makes = stand.makes;
    known = stand.known;
    anchored = stand.anchored;
    once = stand.once;
  }

  pub put_in_later : (n number : ℕ) → edit_at edits n ≡ Some (PutsIn number) → 0 < number
  put_in_later n number is = elim (cases_eq number 0) [
    | inl zero_it ↦
        absurd (put_in_other edits_stand n number is
        (ap (λ (k : ℕ). element_at list.arrivals k) zero_it ∙ ap (λ (a : Arrival). a.element) stand.first))
    | inr other ↦ omega (arith, other)
  ]

  -- the root is marked
  pub root_marked : {marks : List Bool} {passes : ℕ → Bool} → AreThere marks list.arrivals records passes
      → is_marked marks 0 ≡ true
  root_marked {passes = passes} there = there.there 0 stand.some
      ∙ ap (λ (a : Arrival). is_present_element a.element (updates_passing Rga records passes)) stand.first
