-- Lemmas on the edits and elements after one more label with an edit.
use Rattle.std.proofs.Common.{◌≡◌, ℕ, ◌+◌, ◌<◌, ◌≤◌, Bool, true, false, List, [], ◌∷◌, ◌++◌, length, Option, Some, None, refl, sym, ap, ◌∙◌, subst, inl, inr, arith}
use Rattle.std.specs.Prelude.{◌⊎◌, Contains}
use Rattle.std.proofs.lemmas.Bool.{cases_lt, cases_eq}
use Rattle.std.proofs.lemmas.Option.{same_Some}
use Rattle.std.proofs.lemmas.List.{get_or_append_left, get_or_at, length-append}
use Rattle.ra_labels.specs.declared.kind.Kind.TheVariants.{Rga}
use Rattle.ra_labels.specs.declared.operation.Update.TheVariants.{After, RgaRemove}
use Rattle.ra_labels.specs.declared.label.Label.{Label}
use Rattle.ra_labels.specs.Records.{Records, label_count, labels_of}
use Rattle.ra_labels.specs.HistorySoFar.{NextOperation, operate, label_of}
use Rattle.ra_labels.specs.Linearization.{updates_admitted}
use Rattle.ra_labels.specs.NamedOrder.{named_sequence}
use Rattle.ra_labels.specs.Insertion.{updates_passing, HasUpdate}
use Rattle.ra_labels.specs.Pending.{is_present_element}
use Rattle.ra_labels.proofs.Members.{head_or_behind, at_head, behind_head}
use Rattle.ra_theorems.proofs.TheoremIndex.{operation_update_unique-one, element_inserted_by_one_label-one, element_inserted_by_one_label-other, element_present_iff_label_passes-label}
use Rattle.ra_rga_elements.specs.ElementList.{Arrival, ElementList, arrival_at, root}
use Rattle.ra_rga_replica.specs.declared.edit.Edit.{Edit}
use Rattle.ra_rga_replica.specs.declared.edit.Edit.TheVariants.{PutsIn, Removes}
use Rattle.ra_rga_replica.specs.Edits.{edit_at, element_at, number_of, needed_number, update_of, AreElementsOf, AreEditsOf}
use Rattle.ra_rga_replica.proofs.Edits.{edits_stand, edit_there}
use Rattle.ra_rga_replica.proofs.NewMarks.{AreLonger, older_edit, still_edit}

-- the first elements are unchanged
abbrev pub AreFirst : List Arrival → List Arrival → Type 0
AreFirst arrivals later = (number : ℕ) → number < length arrivals → arrival_at later number ≡ arrival_at arrivals number

module _ {arrivals : List Arrival} {edits : List (Option Edit)} {records : Records} where
  pub needed_same : (later : List Arrival) → AreEditsOf arrivals edits records → AreFirst arrivals later
      → (n : ℕ) (edit : Edit) → edit_at edits n ≡ Some edit → needed_number later edit ≡ needed_number arrivals edit
  needed_same later stand first n (PutsIn k) is = ap (λ (a : Arrival). a.anchor) (first k (stand.known n (PutsIn k) is))
  needed_same later stand first n (Removes k) is = refl

  pub update_same : (later : List Arrival) → AreEditsOf arrivals edits records → AreFirst arrivals later
      → (n : ℕ) (edit : Edit) → edit_at edits n ≡ Some edit → update_of later edit ≡ update_of arrivals edit
  update_same later stand first n (PutsIn k) is =
      let known = stand.known n (PutsIn k) is in
      λ i. After ((ap (λ (a : Arrival). element_at later a.anchor) (first k known)
      ∙ ap (λ (a : Arrival). a.element) (first (arrival_at arrivals k).anchor (stand.anchored k known))) i)
      ((first k known i).element)
  update_same later stand first n (Removes k) is =
      ap (λ (a : Arrival). RgaRemove a.element) (first k (stand.known n (Removes k) is))

  pub grown : (later : List Arrival) (next : NextOperation) (edit : Edit) → AreEditsOf arrivals edits records
      → length edits ≡ label_count records
      → updates_admitted Rga (named_sequence Rga (operate next ∷ records)) ≡ true → HasUpdate next.op (update_of later edit)
      → AreFirst arrivals later → length arrivals ≤ length later → number_of edit < length later
      → ((number : ℕ) → number < length later → (arrival_at later number).anchor < length later)
      → ((m n : ℕ) → m < length later → n < length later → element_at later m ≡ element_at later n → m ≡ n)
      → AreEditsOf later (edits ++ Some edit ∷ []) (operate next ∷ records)
  grown later next edit stand counted admitted makes first more known anchored once =
      let label = label_of records next in
      record {
        admitted = admitted;
        made = λ l u l_in l_makes. elim (head_or_behind label (labels_of records) l l_in) [
          | inl here ↦
              let u_makes : HasUpdate next.op u = subst (λ (k : Label). HasUpdate k.op u) (sym here) l_makes in (
                edit,
                ap (λ (k : Label). edit_at (edits ++ Some edit ∷ []) k.number) (sym here)
                    ∙ get_or_at edits (Some edit) [] None (label_count records) counted,
                operation_update_unique-one
                    next.op (update_of later edit) u makes u_makes,
              )
          | inr old ↦
              let (d, d_is, d_does) = stand.made l u old l_makes in
              (d, still_edit edits (Some edit) l.number d d_is, update_same later stand first l.number d d_is ∙ d_does)
        ];
        makes = λ n d is. elim (cases_eq n (label_count records)) [
          | inl here ↦
              let same : edit ≡ d =
              same_Some edit d (sym (get_or_at edits (Some edit) [] None (label_count records) counted)
              ∙ ap (edit_at (edits ++ Some edit ∷ [])) (sym here) ∙ is) in (
                label,
                at_head label (labels_of records) label refl,
                sym here,
                subst
                    (λ (e : Edit). HasUpdate next.op (update_of later e)) same makes,
              )
          | inr other ↦
              let d_is = older_edit edits (Some edit) (label_count records) n d counted other is in
              let (l, l_in, l_num, l_makes) = stand.makes n d d_is in (
                l,
                behind_head label (labels_of records) l l_in,
                l_num,
                subst (HasUpdate l.op)
                    (sym (update_same later stand first n d d_is)) l_makes,
              )
        ];
        known = λ n d is. elim (cases_eq n (label_count records)) [
          | inl here ↦
              let same : edit ≡ d =
              same_Some edit d (sym (get_or_at edits (Some edit) [] None (label_count records) counted)
              ∙ ap (edit_at (edits ++ Some edit ∷ [])) (sym here) ∙ is) in
              subst (λ (e : Edit). number_of e < length later) same known
          | inr other ↦
              omega (
                arith,
                stand.known n d (older_edit edits (Some edit) (label_count records) n d counted other is),
                more,
              )
        ];
        anchored = anchored;
        once = once;
      }

-- with one more element
pub first_same : (arrivals : List Arrival) (new : Arrival) → AreFirst arrivals (arrivals ++ new ∷ [])
first_same arrivals new number known = get_or_append_left arrivals (new ∷ []) root number known

pub new_last : (arrivals : List Arrival) (new : Arrival) → arrival_at (arrivals ++ new ∷ []) (length arrivals) ≡ new
new_last arrivals new = get_or_at arrivals new [] root (length arrivals) refl

pub counted_more : (arrivals : List Arrival) (new : Arrival) → length (arrivals ++ new ∷ []) ≡ length arrivals + 1
counted_more arrivals new = length-append arrivals (new ∷ [])

pub longer_by_one : {records : Records} {settled : ℕ → Bool} (arrivals : List Arrival) (new : Arrival) (next : NextOperation)
    (anchor : ℕ) → updates_admitted Rga (named_sequence Rga (operate next ∷ records)) ≡ true
    → HasUpdate next.op (After anchor new.element)
    → settled (label_count records) ≡ false → AreLonger arrivals (arrivals ++ new ∷ []) (operate next ∷ records) settled
longer_by_one {records = records} {settled = settled} arrivals new next anchor admitted makes not_settled =
    let now = operate next ∷ records in
    let label = label_of records next in
    record {
      same = λ number known. ap (λ (a : Arrival). a.element) (first_same arrivals new number known);
      more = omega (arith, counted_more arrivals new);
      fresh = λ number beyond known.
          let last : number ≡ length arrivals = omega (arith, counted_more arrivals new, beyond, known) in
          ap (λ (n : ℕ). is_present_element (element_at (arrivals ++ new ∷ []) n) (updates_passing Rga now settled)) last
          ∙ ap (λ (a : Arrival). is_present_element a.element (updates_passing Rga now settled)) (new_last arrivals new)
          ∙ element_present_iff_label_passes-label now settled label anchor new.element admitted
          (at_head label (labels_of records) label refl) makes
          ∙ not_settled;
    }

-- an element that a new label inserts is different from all others
module _ {all : ElementList} {edits : List (Option Edit)} {records : Records} where
  pub new_element : (next : NextOperation) (anchor x : ℕ) → AreElementsOf all edits records
      → updates_admitted Rga (named_sequence Rga (operate next ∷ records)) ≡ true → HasUpdate next.op (After anchor x)
      → (number : ℕ) → number < length all.arrivals → ¬ (element_at all.arrivals number ≡ x)
  new_element next anchor x stand admitted makes number known is =
      let now = operate next ∷ records in
      let label = label_of records next in
      let label_in : Contains (labels_of now) label = at_head label (labels_of records) label refl in
      elim (cases_eq number 0) [
        | inl root_it ↦
            element_inserted_by_one_label-other now label anchor x admitted label_in makes
            (sym is ∙ ap (λ (n : ℕ). element_at all.arrivals n) root_it ∙ ap (λ (a : Arrival). a.element) stand.first)
        | inr other ↦
            let (n, n_is) = stand.came number (omega (arith, other)) known in
            let (l, l_in, l_num, l_makes) = stand.makes n (PutsIn number) n_is in
            let its_anchor = element_at all.arrivals (arrival_at all.arrivals number).anchor in
            let its_makes : HasUpdate l.op (After its_anchor x) =
            subst (λ (y : ℕ). HasUpdate l.op (After its_anchor y)) is l_makes in
            let same = element_inserted_by_one_label-one now l label its_anchor anchor x admitted
            (behind_head label (labels_of records) l l_in) label_in its_makes makes in
            let number_same : l.number ≡ label_count records = ap (λ (k : Label). k.number) same in
            omega (arith, l_num, number_same, edit_there edits n (PutsIn number) n_is, stand.count)
      ]

  pub grown_by_one : (new : Arrival) (next : NextOperation) → AreElementsOf all edits records
      → updates_admitted Rga (named_sequence Rga (operate next ∷ records)) ≡ true
      → HasUpdate next.op (After (element_at all.arrivals new.anchor) new.element) → new.anchor < length all.arrivals
      → AreEditsOf (all.arrivals ++ new ∷ []) (edits ++ Some (PutsIn (length all.arrivals)) ∷ [])
      (operate next ∷ records)
  grown_by_one new next stand admitted makes known =
      let later = all.arrivals ++ new ∷ [] in
      let last = new_last all.arrivals new in
      let counted = counted_more all.arrivals new in
      let first = first_same all.arrivals new in
      let its_update : After (element_at all.arrivals new.anchor) new.element
      ≡ update_of later (PutsIn (length all.arrivals)) =
      λ i. After (sym (ap (λ (a : Arrival). element_at later a.anchor) last
      ∙ ap (λ (a : Arrival). a.element) (first new.anchor known)) i) (sym last i).element in
      let fresh = new_element next (element_at all.arrivals new.anchor) new.element stand admitted makes in
      let which : (n : ℕ) → n < length later → (n < length all.arrivals) ⊎ (n ≡ length all.arrivals) =
      λ n within. elim (cases_lt n (length all.arrivals)) [
        | inl old ↦ inl old
        | inr beyond ↦ inr (omega (arith, beyond, within, counted))
      ] in
      let at_last : (n : ℕ) → n ≡ length all.arrivals → element_at later n ≡ new.element =
      λ n it. ap (λ (k : ℕ). element_at later k) it ∙ ap (λ (a : Arrival). a.element) last in
      let at_first : (n : ℕ) → n < length all.arrivals → element_at later n ≡ element_at all.arrivals n =
      λ n it. ap (λ (a : Arrival). a.element) (first n it) in
      grown later next (PutsIn (length all.arrivals)) (edits_stand stand) stand.count admitted
      (subst (HasUpdate next.op) its_update makes) first (omega (arith, counted)) (omega (arith, counted))
      (λ n within. elim (which n within) [
        | inl old ↦
            let anchored : (arrival_at later n).anchor ≡ (arrival_at all.arrivals n).anchor =
            ap (λ (a : Arrival). a.anchor) (first n old) in omega (arith, anchored, stand.anchored n old, counted)
        | inr it ↦
            let anchored : (arrival_at later n).anchor ≡ new.anchor =
            ap (λ (k : ℕ). (arrival_at later k).anchor) it ∙ ap (λ (a : Arrival). a.anchor) last in
            omega (arith, anchored, known, counted)
      ])
      (λ m n m_in n_in same. elim (which m m_in) [
        | inl m_old ↦ elim (which n n_in) [
          | inl n_old ↦ stand.once m n m_old n_old (sym (at_first m m_old) ∙ same ∙ at_first n n_old)
          | inr n_it ↦ absurd (fresh m m_old (sym (at_first m m_old) ∙ same ∙ at_last n n_it))
        ]
        | inr m_it ↦ elim (which n n_in) [
          | inl n_old ↦ absurd (fresh n n_old (sym (at_first n n_old) ∙ sym same ∙ at_last m m_it))
          | inr n_it ↦ m_it ∙ sym n_it
        ]
      ])

  pub grown_by_removal : (number : ℕ) (next : NextOperation) → AreElementsOf all edits records
      → updates_admitted Rga (named_sequence Rga (operate next ∷ records)) ≡ true
      → HasUpdate next.op (RgaRemove (element_at all.arrivals number)) → number < length all.arrivals
      → AreEditsOf all.arrivals (edits ++ Some (Removes number) ∷ []) (operate next ∷ records)
  grown_by_removal number next stand admitted makes known =
      grown all.arrivals next (Removes number) (edits_stand stand) stand.count admitted makes (λ n it. refl)
      (omega arith) known stand.anchored stand.once
