-- Lemmas on the elements of all labels after one more label of any operation.
use Rattle.std.proofs.Common.{◌≡◌, ℕ, zero, suc, ◌<◌, ◌≤◌, Bool, true, false, List, [], ◌∷◌, ◌++◌, length, Option, Some, None, refl, sym, ap, ◌∙◌, subst, inl, inr, arith, length-append}
use Rattle.std.specs.Prelude.{◌⊎◌, option_map}
use Rattle.std.proofs.lemmas.Bool.{cases_lt, true≢false}
use Rattle.std.proofs.lemmas.Option.{none-some, same_Some}
use Rattle.std.proofs.lemmas.List.{get_or_append_left, get_or_at}
use Rattle.ra_labels.specs.declared.kind.Kind.TheVariants as variant
use Rattle.ra_labels.specs.declared.operation.Update.{Update}
use Rattle.ra_labels.specs.declared.operation.Update.TheVariants.{After, RgaRemove}
use Rattle.ra_labels.specs.declared.label.Label.{Label}
use Rattle.ra_labels.specs.Records.{Records, label_count, labels_of, stamp_at}
use Rattle.ra_labels.specs.Visibility.{is_update}
use Rattle.ra_labels.specs.Rewriting.{updates_of}
use Rattle.ra_labels.specs.Specification.{State, Number, Written, Members, Pairs, Listed, Listing, OfAny, OfMvRegister, state_after}
use Rattle.ra_labels.specs.Lists.{hide}
use Rattle.ra_labels.specs.NamedOrder.{named_sequence}
use Rattle.ra_labels.specs.Linearization.{updates_admitted}
use Rattle.ra_labels.specs.TheoremTerms.{elements_in}
use Rattle.ra_labels.specs.Insertion.{HasUpdate}
use Rattle.ra_labels.specs.HistorySoFar.{NextOperation, operate, label_of}
use Rattle.ra_labels.proofs.Members.{head_or_behind, at_head, behind_head}
use Rattle.ra_theorems.proofs.TheoremIndex.{operation_update_unique-exactly, operation_update_unique-one, operation_inserts_among_all-query, updates_admitted_iff_state, state_kind, new_label_in_full_list-removal}
use Rattle.ra_rga_elements.specs.ElementList.{Arrival, ElementList, arrival_at}
use Rattle.ra_rga_replica.specs.declared.edit.Edit.{Edit}
use Rattle.ra_rga_replica.specs.declared.edit.Edit.TheVariants.{PutsIn, Removes}
use Rattle.ra_rga_replica.specs.Edits.{edit_at, element_at, number_of, update_of, AreElementsOf}
use Rattle.ra_witness.proofs.TakenLabels.{label_below}

-- the edits with one more
edit_within : (edits : List (Option Edit)) (n : ℕ) (edit : Edit) → edit_at edits n ≡ Some edit → n < length edits
edit_within [] n edit is = absurd (none-some edit is)
edit_within (d ∷ ds) zero edit is = omega arith
edit_within (d ∷ ds) (suc n) edit is = omega (arith, edit_within ds n edit is)

edit_more : (edits : List (Option Edit)) (o : Option Edit) (n : ℕ) (edit : Edit) → edit_at (edits ++ o ∷ []) n ≡ Some edit
    → (edit_at edits n ≡ Some edit) ⊎ ((n ≡ length edits) × (o ≡ Some edit))
edit_more [] o zero edit is = inr (refl, is)
edit_more [] o (suc n) edit is = absurd (none-some edit is)
edit_more (d ∷ ds) o zero edit is = inl is
edit_more (d ∷ ds) o (suc n) edit is = elim (edit_more ds o n edit is) [
  | inl was ↦ inl was
  | inr (at, new) ↦ inr (omega (arith, at), new)
]

-- what one more label adds: its edit, and the element that it inserts, if any
pub record Adds (all grown : ElementList) (edits : List (Option Edit)) (records : Records) (next : NextOperation) (o : Option Edit) : Type 0 where
  pub kept : (n : ℕ) → n < length all.arrivals → arrival_at grown.arrivals n ≡ arrival_at all.arrivals n
  pub longer : length all.arrivals ≤ length grown.arrivals
  pub made : (update : Update) → HasUpdate next.op update → (edit : Edit) × (o ≡ Some edit) × (update_of grown.arrivals edit ≡ update)
  pub makes : (edit : Edit) → o ≡ Some edit → HasUpdate next.op (update_of grown.arrivals edit)
  pub known : (edit : Edit) → o ≡ Some edit → number_of edit < length grown.arrivals
  pub stamp : (number : ℕ) → o ≡ Some (PutsIn number) → (label_of records next).stamp ≡ Some (arrival_at grown.arrivals number).stamp
  pub unstamped : (number : ℕ) → o ≡ Some (Removes number) → (label_of records next).stamp ≡ None
  pub came : (number : ℕ) → length all.arrivals ≤ number → number < length grown.arrivals → o ≡ Some (PutsIn number)
  pub anchored : (number : ℕ) → length all.arrivals ≤ number → number < length grown.arrivals → (arrival_at grown.arrivals number).anchor < length grown.arrivals
  pub once : (m n : ℕ) → m < length grown.arrivals → n < length grown.arrivals → element_at grown.arrivals m ≡ element_at grown.arrivals n → m ≡ n
  pub listed : (list : List (ℕ × Bool)) × (state_after variant.Rga (updates_of (named_sequence variant.Rga (operate next ∷ records))) ≡ Some (Listed list))
      × (elements_in list ≡ grown.elements)

module _ (all grown : ElementList) (edits : List (Option Edit)) (records : Records) (next : NextOperation) (o : Option Edit)
    (are : AreElementsOf all edits records) (adds : Adds all grown edits records next o) where
  abbrev now : Records
  now = operate next ∷ records

  abbrev own : Label
  own = label_of records next

  abbrev with_it : List (Option Edit)
  with_it = edits ++ o ∷ []

  edit_old : (n : ℕ) → n < label_count records → edit_at with_it n ≡ edit_at edits n
  edit_old n within = get_or_append_left edits (o ∷ []) None n (omega (arith, within, are.count))

  edit_own : edit_at with_it (label_count records) ≡ o
  edit_own = get_or_at edits o [] None (label_count records) are.count

  kept_edit : (n : ℕ) (edit : Edit) → edit_at edits n ≡ Some edit → edit_at with_it n ≡ Some edit
  kept_edit n edit at = edit_old n (omega (arith, edit_within edits n edit at, are.count)) ∙ at

  same_update : (edit : Edit) → number_of edit < length all.arrivals → update_of grown.arrivals edit ≡ update_of all.arrivals edit
  same_update (PutsIn n) within =
      ap (λ (a : Arrival). After (element_at grown.arrivals a.anchor) a.element) (adds.kept n within)
      ∙ ap (λ (a : Arrival). After a.element (element_at all.arrivals n)) (adds.kept (arrival_at all.arrivals n).anchor (are.anchored n within))
  same_update (Removes n) within = ap (λ (a : Arrival). RgaRemove a.element) (adds.kept n within)

  newest_edit : (label : Label) (edit : Edit) → own ≡ label → edit_at with_it label.number ≡ Some edit → o ≡ Some edit
  newest_edit label edit newest at = sym edit_own ∙ ap (λ (l : Label). edit_at with_it l.number) newest ∙ at

  pub elements_more : AreElementsOf grown with_it now
  elements_more = record {
    count = omega (arith, length-append edits (o ∷ []), are.count);
    made = λ label update there makes. elim (head_or_behind own (labels_of records) label there) [
      | inl newest ↦
          let (edit, is, same) = adds.made update (subst (λ (l : Label). HasUpdate l.op update) (sym newest) makes) in
          (edit, ap (λ (l : Label). edit_at with_it l.number) (sym newest) ∙ edit_own ∙ is, same)
      | inr old ↦
          let (edit, at, same) = are.made label update old makes in
          (edit, kept_edit label.number edit at, same_update edit (are.known label.number edit at) ∙ same)
    ];
    makes = λ n edit at. elim (edit_more edits o n edit at) [
      | inl was ↦
          let (label, there, number, makes) = are.makes n edit was in
          (label, behind_head own (labels_of records) label there, number, subst (λ u. HasUpdate label.op u) (sym (same_update edit (are.known n edit was))) makes)
      | inr (here, is) ↦ (own, at_head own (labels_of records) own refl, omega (arith, here, are.count), adds.makes edit is)
    ];
    known = λ n edit at. elim (edit_more edits o n edit at) [
      | inl was ↦ omega (arith, are.known n edit was, adds.longer)
      | inr (here, is) ↦ adds.known edit is
    ];
    stamp = λ label number there at. elim (head_or_behind own (labels_of records) label there) [
      | inl newest ↦ ap (λ (l : Label). l.stamp) (sym newest) ∙ adds.stamp number (newest_edit label (PutsIn number) newest at)
      | inr old ↦
          let was = sym (edit_old label.number (label_below records label old)) ∙ at in
          are.stamp label number old was ∙ ap (λ (a : Arrival). Some a.stamp) (sym (adds.kept number (are.known label.number (PutsIn number) was)))
    ];
    unstamped = λ label number there at. elim (head_or_behind own (labels_of records) label there) [
      | inl newest ↦ ap (λ (l : Label). l.stamp) (sym newest) ∙ adds.unstamped number (newest_edit label (Removes number) newest at)
      | inr old ↦ are.unstamped label number old (sym (edit_old label.number (label_below records label old)) ∙ at)
    ];
    some = omega (arith, are.some, adds.longer);
    first = adds.kept 0 are.some ∙ are.first;
    came = λ number some within. elim (cases_lt number (length all.arrivals)) [
      | inl old ↦ let (n, at) = are.came number some old in (n, kept_edit n (PutsIn number) at)
      | inr new ↦ (label_count records, edit_own ∙ adds.came number new within)
    ];
    anchored = λ number within. elim (cases_lt number (length all.arrivals)) [
      | inl old ↦ let anchor = ap (λ (a : Arrival). a.anchor) (adds.kept number old) in omega (arith, anchor, are.anchored number old, adds.longer)
      | inr new ↦ adds.anchored number new within
    ];
    once = adds.once;
    listed = adds.listed;
  }

-- a label that is not an update
pub adds_nothing : (all : ElementList) (edits : List (Option Edit)) (records : Records) (next : NextOperation) → AreElementsOf all edits records → is_update next.op ≡ false
    → Adds all all edits records next None
adds_nothing all edits records next are asks = record {
  kept = λ n within. refl;
  longer = omega arith;
  made = λ update makes. absurd (true≢false (sym ((operation_update_unique-exactly next.op).1 (update, makes)) ∙ asks));
  makes = λ edit is. absurd (none-some edit is);
  known = λ edit is. absurd (none-some edit is);
  stamp = λ number is. absurd (none-some (PutsIn number) is);
  unstamped = λ number is. absurd (none-some (Removes number) is);
  came = λ number new within. absurd (omega (arith, new, within));
  anchored = λ number new within. absurd (omega (arith, new, within));
  once = are.once;
  listed = (
    are.listed.0,
    ap (state_after variant.Rga) (operation_inserts_among_all-query variant.Rga records next asks) ∙ are.listed.1,
    are.listed.2,
  );
}

-- admitted updates lead to a list
pub leads_to_list : (us : List Update) (s : State) → state_after variant.Rga us ≡ Some s → (list : List (ℕ × Bool)) × (state_after variant.Rga us ≡ Some (Listed list))
leads_to_list us (Listed list) led = (list, led)
leads_to_list us (Number n) led = absurd (let e = state_kind variant.Rga us (Number n) led in cc (e))
leads_to_list us (Written last) led = absurd (let e = state_kind variant.Rga us (Written last) led in cc (e))
leads_to_list us (Members xs) led = absurd (let e = state_kind variant.Rga us (Members xs) led in cc (e))
leads_to_list us (Pairs pairs) led = absurd (let e = state_kind variant.Rga us (Pairs pairs) led in cc (e))
leads_to_list us (Listing list) led = absurd (let e = state_kind variant.Rga us (Listing list) led in cc (e))
leads_to_list us OfAny led = absurd (let e = state_kind variant.Rga us OfAny led in cc (e))
leads_to_list us OfMvRegister led = absurd (let e = state_kind variant.Rga us OfMvRegister led in cc (e))

pub list_after : (records : Records) → updates_admitted variant.Rga (named_sequence variant.Rga records) ≡ true
    → (list : List (ℕ × Bool)) × (state_after variant.Rga (updates_of (named_sequence variant.Rga records)) ≡ Some (Listed list))
list_after records admitted =
    let (s, led) = (updates_admitted_iff_state variant.Rga (named_sequence variant.Rga records)).0 admitted in
    leads_to_list (updates_of (named_sequence variant.Rga records)) s led

elements_stay : (x : ℕ) (list : List (ℕ × Bool)) → elements_in (hide x list) ≡ elements_in list
elements_stay x [] = refl
elements_stay x (entry ∷ list) = ap (λ xs. entry.0 ∷ xs) (elements_stay x list)

-- a label that removes an element
pub adds_removal : (all : ElementList) (edits : List (Option Edit)) (records : Records) (next : NextOperation) (number : ℕ) → AreElementsOf all edits records
    → HasUpdate next.op (RgaRemove (element_at all.arrivals number)) → number < length all.arrivals → next.clock ≡ None
    → updates_admitted variant.Rga (named_sequence variant.Rga (operate next ∷ records)) ≡ true → Adds all all edits records next (Some (Removes number))
adds_removal all edits records next number are removes within unclocked admitted = record {
  kept = λ n within. refl;
  longer = omega arith;
  made = λ update makes. (Removes number, refl, operation_update_unique-one next.op (RgaRemove (element_at all.arrivals number)) update removes makes);
  makes = λ edit is. subst (λ d. HasUpdate next.op (update_of all.arrivals d)) (same_Some (Removes number) edit is) removes;
  known = λ edit is. subst (λ d. number_of d < length all.arrivals) (same_Some (Removes number) edit is) within;
  stamp = λ other is. absurd (cc (is));
  unstamped = λ other is. ap (option_map (stamp_at next.by)) unclocked;
  came = λ other new there. absurd (omega (arith, new, there));
  anchored = λ other new there. absurd (omega (arith, new, there));
  once = are.once;
  listed =
      let (list, led) = list_after (operate next ∷ records) admitted in
      let hidden = new_label_in_full_list-removal records next (element_at all.arrivals number) are.listed.0 list removes are.listed.1 led in
      (list, led, ap elements_in hidden ∙ elements_stay (element_at all.arrivals number) are.listed.0 ∙ are.listed.2);
}
