-- Lemmas on what is found of a label: of a read of a register, of one of an LWW set, and of a label that is neither.
use Rattle.std.proofs.Common.{◌≡◌, ℕ, ◌+◌, ◌<◌, Bool, true, false, List, [], ◌∷◌, ◌++◌, Option, Some, None, BTreeMap, refl, sym, ap, ◌∙◌, subst, inl, inr, append-nil, append_assoc, length, length-set, get_or, set, arith}
use Rattle.std.specs.Prelude.{◌⊎◌, IfSome, slice_get, Contains}
use Rattle.std.proofs.lemmas.Option.{same_Some, none-some}
use Rattle.std.proofs.lemmas.Bool.{cases_eq, false≢true}
use Rattle.std.proofs.lemmas.List.{get_or-set_same, get_or-set_other}
use Rattle.std.specs.Map.{lookup}
use Rattle.std.specs.BTreeMap.{is_at}
use Rattle.ra_labels.specs.declared.kind.Kind.{Kind}
use Rattle.ra_labels.specs.declared.operation.Op.{Op}
use Rattle.ra_labels.specs.declared.operation.Op.TheVariants as op
use Rattle.ra_labels.specs.declared.label.Label.{Label}
use Rattle.ra_labels.specs.Answer.{kind_of}
use Rattle.ra_labels.specs.Lists.{is_among, pair_cmp}
use Rattle.ra_labels.specs.Records.{Records, label_count, labels_of}
use Rattle.ra_labels.specs.Visibility.{sees}
use Rattle.ra_labels.specs.Places.{issuer_of}
use Rattle.ra_precedence.specs.Conditions.{Condition}
use Rattle.ra_some_order.specs.SomeOrder.{EachLabelIsOfKind}
use Rattle.ra_some_order.proofs.LabelSequences.{label_below}
use Rattle.ra_any_order.specs.declared.outcome.Outcome.{Outcome}
use Rattle.ra_any_order.specs.declared.outcome.Outcome.TheVariants.{Possible, Impossible}
use Rattle.ra_any_order.specs.declared.views.View.{View}
use Rattle.ra_visibility.specs.Newest.{AreNewest}
use Rattle.ra_any_order.specs.Previous.{IsLastBelow}
use Rattle.ra_any_order.specs.Reading.{narrow_value, order_condition}
use Rattle.ra_any_order.specs.Changes.{newest_in, list_of, AreNewestChanges, IsViewOf, IsNewView, IsViewBelow}
use Rattle.ra_any_order.specs.Elements.{IsElementsOutcome}
use Rattle.ra_any_order.specs.Finding.{AreFound}
use Rattle.ra_any_order.specs.Outcomes.{IsOutcome, IfPossible, IsValueOutcome, IsLabelOutcome}
use Rattle.ra_any_order.specs.Requirements.{AreConditionsBelow, AreReadConditions, NameBelow}
use Rattle.ra_any_order.proofs.NarrowSides.{AreListed}
use Rattle.ra_any_order.proofs.NamedLabels.{named_both, value_named, elements_named}
use Rattle.ra_any_order.proofs.ElementReads.{impossible_element}
use Rattle.ra_any_order.proofs.LabelConditions.{value_reads, value_refused, is_read, no_reads}
use Rattle.ra_any_order.proofs.SetReads.{set_reads}
use Rattle.ra_any_order.proofs.Conclusions.{label_with, step, refused}

module _ (records : Records) (operations : List Op) (listed : AreListed records operations) where
  -- ---- an LWW set
  abbrev SetOutcome : ℕ → Type 0
  SetOutcome n = (list : List ℕ) → slice_get operations n ≡ Some (op.LwwRead list) → (last : Option ℕ)
      → IfSome last (λ q. (q < n) × (issuer_of records q ≡ issuer_of records n)
      × ((earlier : List ℕ) × (slice_get operations q ≡ Some (op.LwwRead earlier)))) → (found : BTreeMap (ℕ × ℕ) ℕ)
      → (elements : List ℕ) → AreFound records operations last n found elements → (bound : ℕ)
      → ((k : ℕ) → sees records n k ≡ true → issuer_of records k < bound) → (is_listed : ℕ → Bool)
      → ((x : ℕ) → is_listed x ≡ is_among x list)
      → ((x : ℕ) → Contains elements x ⊎ (is_listed x ≡ is_among x (list_of operations last)))
      → (old new : List Condition) → AreConditionsBelow records n old → (outcome : Outcome)
      → IsElementsOutcome operations found bound is_listed elements old new outcome
      → IsOutcome records n (op.LwwRead list) old new outcome

  set_at_label : (label : Label) → Contains (labels_of records) label
      → slice_get operations label.number ≡ Some label.op → SetOutcome label.number
  set_at_label label here at list is last was found elements are bound few is_listed listed_is flips old new kept
      Possible (added, new_is, all) = (
        added,
        new_is,
        set_reads records operations listed label here (label_below records label here) list
            (same_Some label.op (op.LwwRead list) (sym at ∙ is)) last was found elements are bound few is_listed listed_is
            flips old kept added all,
      )
  set_at_label label here at list is last was found elements are bound few is_listed listed_is flips old new kept
      (Impossible (Some x)) (newest, of, impossible) =
      impossible_element records operations listed label.number found are.newest bound few x newest of list
      (is_listed x) (sym (listed_is x)) impossible
  set_at_label label here at list is last was found elements are bound few is_listed listed_is flips old new kept
      (Impossible None) none = absurd none

  pub set_outcome : (n : ℕ) → n < label_count records → SetOutcome n
  set_outcome n below =
      let (label, at, here, numbered, is) = label_with records operations listed n below in
      subst SetOutcome numbered (set_at_label label here (ap (slice_get operations) numbered ∙ is))

  -- ---- a register
  abbrev ValueOutcome : ℕ → Type 0
  ValueOutcome n = (value : Option ℕ) → slice_get operations n ≡ Some (op.Last value) → (newest : List ℕ)
      → AreNewest records n newest → (old new : List Condition) → (outcome : Outcome)
      → IsValueOutcome (narrow_value operations newest value) value old new outcome
      → IsOutcome records n (op.Last value) old new outcome

  module _ (kind : Kind) (of_kind : EachLabelIsOfKind kind records) where
    value_at_label : (label : Label) → Contains (labels_of records) label
        → slice_get operations label.number ≡ Some label.op → ValueOutcome label.number
    value_at_label label here at value is newest are old new outcome it = go outcome it
      where
        op_is : label.op ≡ op.Last value
        op_is = same_Some label.op (op.Last value) (sym at ∙ is)

        register : (other : Label) → Contains (labels_of records) other → kind_of other.op ≡ kind_of (op.Last value)
        register other there = of_kind other there ∙ sym (of_kind label here) ∙ ap kind_of op_is

        go : (o : Outcome) → IsValueOutcome (narrow_value operations newest value) value old new o
            → IsOutcome records label.number (op.Last value) old new o
        go Possible (new_is, possible) = (
          narrow_value operations newest value ∷ [],
          new_is,
          value_reads records label here value op_is operations listed register newest are old possible,
        )
        go (Impossible None) impossible =
            value_refused records label here value op_is operations listed register newest are impossible
        go (Impossible (Some x)) none = absurd none

    pub value_outcome : (n : ℕ) → n < label_count records → ValueOutcome n
    value_outcome n below =
        let (label, at, here, numbered, is) = label_with records operations listed n below in
        subst ValueOutcome numbered (value_at_label label here (ap (slice_get operations) numbered ∙ is))

-- ---- neither
pub other_outcome : (records : Records) (n : ℕ) (operation : Op) (conditions : List Condition)
    → is_read operation ≡ false → IsOutcome records n operation conditions conditions Possible
other_outcome records n operation conditions other =
    ([], sym (append-nil conditions), no_reads records n operation conditions other)

-- ---- the labels that conditions name
pub elements_outcome_named : (operations : List Op) (found : BTreeMap (ℕ × ℕ) ℕ) (replicas count : ℕ)
    (is_listed : ℕ → Bool) (elements : List ℕ) (old new : List Condition)
    → ((x replica m : ℕ) → newest_in found x replica ≡ Some m → m < count) → (outcome : Outcome)
    → IsElementsOutcome operations found replicas is_listed elements old new outcome → NameBelow count old
    → IfPossible outcome (NameBelow count new)
elements_outcome_named operations found replicas count is_listed elements old new low Possible (added, is, are) named =
    subst (NameBelow count) (sym is)
    (named_both count old added named (elements_named operations found replicas count is_listed elements added low are))
elements_outcome_named operations found replicas count is_listed elements old new low (Impossible x) it named = tt

pub value_outcome_named : (operations : List Op) (newest : List ℕ) (count : ℕ) (value : Option ℕ)
    (old new : List Condition) (outcome : Outcome)
    → IsValueOutcome (narrow_value operations newest value) value old new outcome → NameBelow count old
    → ((m : ℕ) → Contains newest m → m < count) → IfPossible outcome (NameBelow count new)
value_outcome_named operations newest count value old new Possible (is, possible) named low =
    subst (NameBelow count) (sym is)
    (named_both count old (narrow_value operations newest value ∷ []) named
    (value_named operations newest count low value))
value_outcome_named operations newest count value old new (Impossible x) it named low = tt

-- ---- what the reads of a replica found
pub view_after : (records : Records) (operations : List Op) (n : ℕ) (view : View) (list : List ℕ) → view.last ≡ Some n
    → slice_get operations n ≡ Some (op.LwwRead list) → AreNewestChanges records operations (Some n) view.newest
    → IsViewOf records operations (issuer_of records n) (n + 1) view
view_after records operations n view list last is are = record {
  last = subst (λ o. IfSome o (λ q. (q < n + 1) × (issuer_of records q ≡ issuer_of records n)
      × ((earlier : List ℕ) × (slice_get operations q ≡ Some (op.LwwRead earlier))))) (sym last)
      (omega arith, refl, (list, is));
  newest = subst (λ o. AreNewestChanges records operations o view.newest) (sym last) are;
}

pub view_later : (records : Records) (operations : List Op) (replica n : ℕ) (view : View)
    → IsViewOf records operations replica n view → IsViewOf records operations replica (n + 1) view
view_later records operations replica n view are = record { last = later view.last are.last; newest = are.newest }
  where
    later : (o : Option ℕ) → IfSome o (λ q. (q < n) × (issuer_of records q ≡ replica)
        × ((earlier : List ℕ) × (slice_get operations q ≡ Some (op.LwwRead earlier))))
        → IfSome o (λ q. (q < n + 1) × (issuer_of records q ≡ replica)
        × ((earlier : List ℕ) × (slice_get operations q ≡ Some (op.LwwRead earlier))))
    later None none = tt
    later (Some q) (less, issued, read) = (omega (arith, less), issued, read)

-- ---- a label
module _ (records : Records) (operations : List Op) (listed : AreListed records operations) (n : ℕ)
    (below : n < label_count records) (newest : List ℕ) (are : AreNewest records n newest) (previous : Option ℕ)
    (last : IsLastBelow records n (issuer_of records n) previous) (old mid new : List Condition)
    (kept : AreConditionsBelow records n old) (new_is : new ≡ mid ++ order_condition newest previous n ∷ []) where
  pub label_outcome : (outcome : Outcome)
      → ((operation : Op) → slice_get operations n ≡ Some operation → IsOutcome records n operation old mid outcome)
      → IsLabelOutcome records n new outcome
  label_outcome Possible it =
      let (label, at, here, numbered, is) = label_with records operations listed n below in
      let (added, mid_is, are_reads) = it label.op is in
      let ordering = order_condition newest previous n in
      subst (AreConditionsBelow records (n + 1))
      (sym (new_is ∙ ap (λ cs. cs ++ ordering ∷ []) mid_is ∙ append_assoc old added (ordering ∷ [])))
      (step records operations listed n below newest are previous last old added kept
      (λ operation read. subst (λ o. AreReadConditions records n o old added)
      (same_Some label.op operation (sym is ∙ read)) are_reads))
  label_outcome (Impossible element) it = refused records operations listed n below element it

pub label_named : (count : ℕ) (mid new : List Condition) (ordering : Condition) → new ≡ mid ++ ordering ∷ []
    → NameBelow count (ordering ∷ []) → (outcome : Outcome) → IfPossible outcome (NameBelow count mid)
    → IfPossible outcome (NameBelow count new)
label_named count mid new ordering is last Possible named =
    subst (NameBelow count) (sym is) (named_both count mid (ordering ∷ []) named last)
label_named count mid new ordering is last (Impossible element) named = tt

-- ---- views without reads, and one view that is replaced
none_in : (view : View) → IsNewView view → (x replica : ℕ) → newest_in view.newest x replica ≡ None
none_in view (last, empty) x replica = ap (lookup (is_at (pair_cmp (x, replica)))) empty

pub new_view_below : (count : ℕ) (view : View) → IsNewView view → IsViewBelow count view
new_view_below count view new = record {
  last = subst (λ o. IfSome o (λ q. q < count)) (sym new.0) tt;
  newest = λ x replica m at. absurd (none-some m (sym (none_in view new x replica) ∙ at));
}

pub new_view_of : (records : Records) (operations : List Op) (replica bound : ℕ) (view : View) → IsNewView view
    → IsViewOf records operations replica bound view
new_view_of records operations replica bound view new = record {
  last = subst (λ o. IfSome o (λ q. (q < bound) × (issuer_of records q ≡ replica)
      × ((list : List ℕ) × (slice_get operations q ≡ Some (op.LwwRead list))))) (sym new.0) tt;
  newest = subst (λ o. AreNewestChanges records operations o view.newest) (sym new.0) (record {
    seen = λ x other m at. absurd (none-some m (sym (none_in view new x other) ∙ at));
    latest = λ x k seen passes. absurd (false≢true seen);
  });
}

pub each_set : (Is : ℕ → View → Type 0) (views : List View) (r : ℕ) (view : View)
    → ((i : ℕ) (none : View) → i < length views → Is i (get_or views i none)) → Is r view → (i : ℕ) (none : View)
    → i < length (set views r view) → Is i (get_or (set views r view) i none)
each_set Is views r view each it i none within =
    let there : i < length views = subst (λ k. i < k) (length-set views r view) within in
    elim (cases_eq i r) [
      | inl same ↦
          subst (Is i) (sym (subst (λ k. get_or (set views r view) k none ≡ view) (sym same)
          (get_or-set_same views r view none (subst (λ k. k < length views) same there))))
          (subst (λ k. Is k view) (sym same) it)
      | inr other ↦ subst (Is i) (sym (get_or-set_other views r i view none other)) (each i none there)
    ]
