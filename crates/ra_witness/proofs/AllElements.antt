-- Lemmas on the elements of all labels: the initial list, a list with reserved capacity, and properties of the
-- elements.
use Rattle.std.proofs.Common.{◌≡◌, ℕ, zero, suc, ◌<◌, true, false, List, [], ◌∷◌, length, Option, Some, refl, sym, ap, ◌∙◌, subst, inl, inr, arith}
use Rattle.std.specs.Prelude.{Contains, Vec}
use Rattle.std.specs.declared.alloc.Global.{Global}
use Rattle.std.proofs.lemmas.Bool.{cases_eq}
use Rattle.std.proofs.lemmas.Option.{none-some}
use Rattle.std.proofs.lemmas.List.Sorted.{Contains-permutation, IsPermutation-sym}
use Rattle.ra_labels.specs.declared.kind.Kind.TheVariants as variant
use Rattle.ra_labels.specs.declared.operation.Update.TheVariants.{After}
use Rattle.ra_labels.specs.declared.label.Label.{Label}
use Rattle.ra_labels.specs.Records.{Records, labels_of}
use Rattle.ra_labels.specs.Rewriting.{updates_of}
use Rattle.ra_labels.specs.NamedOrder.{named_labels, named_sequence}
use Rattle.ra_labels.specs.Insertion.{HasUpdate}
use Rattle.ra_labels.specs.Pending.{is_present_element}
use Rattle.ra_theorems.proofs.TheoremIndex.{named_labels_sorted-same, present_element_has_insertion-all}
use Rattle.ra_rga_elements.specs.ElementList.{Arrival, ElementList, root, arrival_at}
use Rattle.ra_rga_replica.specs.declared.edit.Edit.{Edit}
use Rattle.ra_rga_replica.specs.declared.edit.Edit.TheVariants.{PutsIn, Removes}
use Rattle.ra_rga_replica.specs.Edits.{edit_at, element_at, update_of, AreElementsOf}
use Rattle.ra_witness.specs.declared.rga.Rga.{Rga}
use Rattle.ra_witness.specs.Rga.{IsRgaOf}
use Rattle.ra_witness.proofs.ReplicaLists.{AreListsOf}

-- the capacity does not matter
pub elements_like : (a b : ElementList) (edits : List (Option Edit)) (records : Records) → a.elements ≡ b.elements → a.arrivals ≡ b.arrivals
    → AreElementsOf a edits records → AreElementsOf b edits records
elements_like a b edits records same_elements same_arrivals are =
    let roomy : AreElementsOf (record { elements = a.elements; arrivals = a.arrivals; has_room = b.has_room }) edits records = record {
      count = are.count;
      made = are.made;
      makes = are.makes;
      known = are.known;
      stamp = are.stamp;
      unstamped = are.unstamped;
      some = are.some;
      first = are.first;
      came = are.came;
      anchored = are.anchored;
      once = are.once;
      listed = are.listed;
    } in
    subst (λ es. AreElementsOf (record { elements = es; arrivals = b.arrivals; has_room = b.has_room }) edits records) same_elements
    (subst (λ rs. AreElementsOf (record { elements = a.elements; arrivals = rs; has_room = b.has_room }) edits records) same_arrivals roomy)

pub rga_like : (a b : Rga) (initial_replicas : ℕ) (records : Records) → a.all.elements ≡ b.all.elements → a.all.arrivals ≡ b.all.arrivals → a.edits.items ≡ b.edits.items → a.lists.items ≡ b.lists.items
    → IsRgaOf a initial_replicas records → IsRgaOf b initial_replicas records
rga_like a b initial_replicas records same_elements same_arrivals same_edits same_lists stands = record {
  elements = subst (λ ds. AreElementsOf b.all ds records) same_edits (elements_like a.all b.all a.edits.items records same_elements same_arrivals stands.elements);
  replicas = ap length (sym same_lists) ∙ stands.replicas;
  lists =
      subst (λ ls. AreListsOf ls b.all.arrivals b.edits.items records) same_lists
      (subst (λ ds. AreListsOf a.lists.items b.all.arrivals ds records) same_edits (subst (λ rs. AreListsOf a.lists.items rs a.edits.items records) same_arrivals stands.lists));
  few = omega (arith, stands.few, ap length same_arrivals);
}

abbrev with_edits : Rga → Vec (Option Edit) Global → Rga
with_edits rga edits = record { edits = edits; all = rga.all; lists = rga.lists }

-- nor does the capacity of the edits
pub rga_reserved : (rga : Rga) (edits : Vec (Option Edit) Global) (initial_replicas : ℕ) (records : Records)
    → edits.items ≡ rga.edits.items → IsRgaOf rga initial_replicas records → IsRgaOf (with_edits rga edits) initial_replicas records
rga_reserved rga edits initial_replicas records same stands =
    rga_like rga (with_edits rga edits) initial_replicas records refl refl (sym same) refl stands

none_there : (n : ℕ) (x : Edit) → edit_at [] n ≡ Some x → ⊥
none_there n x is = none-some x is

-- without labels, the list has only the root
pub no_elements : (all : ElementList) → all.elements ≡ 0 ∷ [] → all.arrivals ≡ root ∷ [] → AreElementsOf all [] []
no_elements all elements arrivals =
    let one : ElementList = record { elements = 0 ∷ []; arrivals = root ∷ []; has_room = all.has_room } in
    elements_like one all [] [] (sym elements) (sym arrivals) (record {
      count = refl;
      made = λ label update there makes. absurd (omega (arith, there.1));
      makes = λ n edit at. absurd (none_there n edit at);
      known = λ n edit at. absurd (none_there n edit at);
      stamp = λ label number there at. absurd (omega (arith, there.1));
      unstamped = λ label number there at. absurd (omega (arith, there.1));
      some = omega arith;
      first = refl;
      came = λ number some there. absurd (omega (arith, some, there));
      anchored = anchored;
      once = λ m n within there same. omega (arith, within, there);
      listed = ((0, false) ∷ [], refl, refl);
    })
  where
    anchored : (number : ℕ) → number < length (root ∷ []) → (arrival_at (root ∷ []) number).anchor < length (root ∷ [])
    anchored zero within = omega arith
    anchored (suc n) within = absurd (omega (arith, within))

module _ (all : ElementList) (edits : List (Option Edit)) (records : Records) (are : AreElementsOf all edits records) where
  -- each element except the root was inserted by a label
  pub its_label : (n : ℕ) → 0 < n → n < length all.arrivals → (label : Label) × Contains (labels_of records) label
      × HasUpdate label.op (After (element_at all.arrivals (arrival_at all.arrivals n).anchor) (element_at all.arrivals n)) × (label.stamp ≡ Some (arrival_at all.arrivals n).stamp)
  its_label n some within =
      let (m, at) = are.came n some within in
      let (label, there, number, makes) = are.makes m (PutsIn n) at in
      (label, there, makes, are.stamp label n there (ap (edit_at edits) number ∙ at))

  -- the number of the element that a label inserted
  pub record IsPutInAs (label : Label) (x n : ℕ) : Type 0 where
    pub within : n < length all.arrivals
    pub is : element_at all.arrivals n ≡ x
    pub stamp : label.stamp ≡ Some (arrival_at all.arrivals n).stamp

  pub its_number : (label : Label) (anchor x : ℕ) → Contains (labels_of records) label → HasUpdate label.op (After anchor x) → (n : ℕ) × IsPutInAs label x n
  its_number label anchor x there makes =
      let (edit, at, is) = are.made label (After anchor x) there makes in
      by edit at is
    where
      by : (edit : Edit) → edit_at edits label.number ≡ Some edit → update_of all.arrivals edit ≡ After anchor x → (n : ℕ) × IsPutInAs label x n
      by (PutsIn n) at is = let same : element_at all.arrivals n ≡ x = cc (is) in (n, record { within = are.known label.number (PutsIn n) at; is = same; stamp = are.stamp label n there at })
      by (Removes n) at is = absurd (cc (is))

  -- each element that is present has a number
  pub there_numbered : (x : ℕ) → is_present_element x (updates_of (named_sequence variant.Rga records)) ≡ true → (n : ℕ) × (n < length all.arrivals) × (element_at all.arrivals n ≡ x)
  there_numbered x is =
      let named = named_labels variant.Rga records in
      elim ((present_element_has_insertion-all named x).0 is) [
        | inl root_is ↦ (0, are.some, ap (λ (a : Arrival). a.element) are.first ∙ sym root_is)
        | inr (label, anchor, there, makes) ↦
            let (n, as_number) = its_number label anchor x
            (Contains-permutation named (labels_of records) label (IsPermutation-sym (labels_of records) named (named_labels_sorted-same variant.Rga records)) there) makes in
            (n, as_number.within, as_number.is)
      ]

  pub numbered_there : (x n : ℕ) → n < length all.arrivals → element_at all.arrivals n ≡ x → is_present_element x (updates_of (named_sequence variant.Rga records)) ≡ true
  numbered_there x n within same = elim (cases_eq n 0) [
    | inl zero_is ↦
        (present_element_has_insertion-all (named_labels variant.Rga records) x).1
        (inl (sym (sym (ap (λ (a : Arrival). a.element) are.first) ∙ sym (ap (element_at all.arrivals) zero_is) ∙ same)))
    | inr other ↦
        let named = named_labels variant.Rga records in
        let (label, there, makes, stamp) = its_label n (omega (arith, other)) within in
        (present_element_has_insertion-all named x).1 (inr (
          label,
          element_at all.arrivals (arrival_at all.arrivals n).anchor,
          Contains-permutation (labels_of records) named label (named_labels_sorted-same variant.Rga records) there,
          subst (λ y. HasUpdate label.op (After (element_at all.arrivals (arrival_at all.arrivals n).anchor) y)) same makes,
        ))
  ]
