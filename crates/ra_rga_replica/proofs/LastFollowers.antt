-- Lemmas on the list after all labels have followed.
use Rattle.std.proofs.Common.{◌≡◌, ℕ, ◌<◌, ◌≤◌, Bool, true, false, cond, List, [], ◌∷◌, ◌++◌, filter, map, length, Option, Some, None, refl, sym, ap, ◌∙◌, subst, inl, inr, arith}
use Rattle.std.specs.Prelude.{Contains, flat_map}
use Rattle.std.specs.Option.{option_map_or}
use Rattle.std.specs.List.{list_any}
use Rattle.std.proofs.lemmas.Bool.{false≢true, cases_Bool, cases_eq, false_from_ne_true, eqb-true, eq-eqb, cond-true, cond-false, or_left, or_right}
use Rattle.std.proofs.lemmas.List.{length-append}
use Rattle.std.proofs.lemmas.List.Elements.{filter-append, filter_map-append}
use Rattle.std.proofs.lemmas.List.Sorted.{length_permutation}
use Rattle.ra_labels.specs.declared.kind.Kind.TheVariants.{Rga}
use Rattle.ra_labels.specs.declared.operation.Op.{Op}
use Rattle.ra_labels.specs.declared.operation.Op.TheVariants as op
use Rattle.ra_labels.specs.declared.list_operation.ListOp.TheVariants as list
use Rattle.ra_labels.specs.declared.operation.Update.{Update}
use Rattle.ra_labels.specs.declared.operation.Query.{Query}
use Rattle.ra_labels.specs.declared.label.Label.{Label}
use Rattle.ra_labels.specs.Records.{Records, labels_of}
use Rattle.ra_labels.specs.Rewriting.{Part, Half, Act, Does, Asks, acts_of, part_of, parts_of, update_of as act_update, updates_of}
use Rattle.ra_labels.specs.NamedOrder.{named_labels}
use Rattle.ra_labels.specs.TheoremTerms.{HasNoDuplicates}
use Rattle.ra_labels.specs.Insertion.{updates_among, updates_passing, or_label}
use Rattle.ra_labels.specs.Pending.{is_present_element, dependency_of}
use Rattle.ra_labels.proofs.Members.{head_or_behind, none_there, what_passes}
use Rattle.ra_labels.proofs.Counted.{labels_counted}
use Rattle.ra_theorems.proofs.TheoremIndex.{settled_not_pending, named_labels_sorted-same}
use Rattle.ra_rga_elements.specs.ElementList.{Arrival, ElementList, is_marked}
use Rattle.ra_rga_replica.specs.declared.edit.Edit.{Edit}
use Rattle.ra_rga_replica.specs.declared.edit.Edit.TheVariants.{PutsIn, Removes}
use Rattle.ra_rga_replica.specs.PendingLabels.{labels_under}
use Rattle.ra_rga_replica.specs.Edits.{edit_at, needed_number, AreElementsOf, AreEditsOf}
use Rattle.ra_rga_replica.specs.ReplicaList.{AreShown, IsListWith}
use Rattle.ra_rga_replica.specs.Cascade.{puts, is_put_by, freed_under, IsFreeing, IsListWithAfter}
use Rattle.ra_rga_replica.proofs.NoneTwice.{not_both, still_passes, others_pass}
use Rattle.ra_rga_replica.proofs.Edits.{edits_stand, needed_marked, needed_known, marked_label, root_marked, AreMarksWith}
use Rattle.ra_rga_replica.proofs.FreedLabels.{unmarked, marked, first_freed, follows}

-- if one of the labels passes a test, `list_any` passes
passes_one : (p : ℕ → Bool) (xs : List ℕ) (x : ℕ) → Contains xs x → p x ≡ true → list_any p xs ≡ true
passes_one p [] x there is = absurd (none_there x there)
passes_one p (y ∷ xs) x there is = elim (head_or_behind y xs x there) [
  | inl here ↦ or_left (p y) (list_any p xs) (ap p here ∙ is)
  | inr further ↦ or_right (p y) (list_any p xs) (passes_one p xs x further is)
]

-- an edit that inserts the element
puts_at : (o : Option Edit) (number : ℕ) → option_map_or (puts number) o false ≡ true → o ≡ Some (PutsIn number)
puts_at None number is = absurd (false≢true is)
puts_at (Some (PutsIn k)) number is = ap (λ (n : ℕ). Some (PutsIn n)) (sym (eqb-true number k is))
puts_at (Some (Removes k)) number is = absurd (false≢true is)

at_puts : (o : Option Edit) (number : ℕ) → o ≡ Some (PutsIn number) → option_map_or (puts number) o false ≡ true
at_puts o number is = ap (λ (d : Option Edit). option_map_or (puts number) d false) is ∙ eq-eqb number number refl

module _ {arrivals : List Arrival} {edits : List (Option Edit)} {records : Records} {old_shows : ℕ → Bool}
    {old_marks : List Bool} {waiting : List (ℕ × List ℕ)} {had settled : ℕ → Bool} {shows : ℕ → Bool} {marks : List Bool}
    {labels : List ℕ} {first : ℕ} where
  -- all labels have followed, and exactly the pending labels that are not settled remain pending
  all_settled : (left : List (ℕ × List ℕ)) → AreEditsOf arrivals edits records
      → IsListWith old_shows old_marks waiting arrivals edits records had settled
      → (free : IsFreeing shows marks labels [] arrivals edits records had settled first)
      → ((number n : ℕ) → Contains (labels_under left number) n
      → Contains (labels_under waiting number) n × (free.passes n ≡ false))
      → ((number n : ℕ) → Contains (labels_under waiting number) n → is_marked marks number ≡ false
      → Contains (labels_under left number) n)
      → ((number : ℕ) → HasNoDuplicates (labels_under left number))
      → IsListWithAfter shows marks left arrivals edits records had settled first (length labels)
  all_settled left stand kept free waited waits_on once =
      let passes = free.passes in
      let first_passes : passes first ≡ true = elim free.itself [
        | inl it ↦ it
        | inr found ↦ absurd (none_there first found)
      ] in
      let was_had : (n : ℕ) → or_label had first n ≡ true → passes n ≡ false → had n ≡ true =
      λ n had_it fails. sym (others_pass had first n (λ it. not_both (passes n) fails (ap passes it ∙ first_passes)))
      ∙ had_it in
      let missing : (n : ℕ) (d : Edit) → edit_at edits n ≡ Some d → or_label had first n ≡ true → passes n ≡ false
      → is_marked marks (needed_number arrivals d) ≡ false =
      λ n d d_is had_it fails. elim (free.others n d d_is (was_had n had_it fails) fails) [
        | inl it ↦ it
        | inr found ↦ absurd (none_there n found)
      ] in
      record {
        settled = passes;
        kept = record {
          settles = (settled_not_pending records (or_label had first) passes).1 (
            free.had_them,
            free.none_waits,
            (λ l u l_in makes had_it fails.
                let (d, d_is, d_does) = stand.made l u l_in makes in
                ap (λ (v : Update). is_present_element (dependency_of v) (updates_passing Rga records passes)) (sym d_does)
                ∙ needed_marked stand free.there l.number d d_is ∙ missing l.number d d_is had_it fails),
          );
          shown = free.shown;
          there = free.there;
          waiting_labels = record {
            waits = λ n d d_is had_it fails. waits_on (needed_number arrivals d) n
                (kept.waiting_labels.waits n d d_is (was_had n had_it fails)
                (false_from_ne_true (settled n) (λ it. not_both (passes n) fails (free.older n it))))
                (missing n d d_is had_it fails);
            only = λ number n found.
                let (old, not_yet) = waited number n found in
                let (d, d_is, d_needs, n_had, n_waits) = kept.waiting_labels.only number n old in
                (d, d_is, d_needs, still_passes had first n n_had, not_yet);
            once = once;
          };
        };
        count = free.count;
      }

module _ {arrivals : List Arrival} {edits : List (Option Edit)} {records : Records} {shows : ℕ → Bool} {marks : List Bool}
    {waiting : List (ℕ × List ℕ)} {had settled : ℕ → Bool} where
  -- only one label follows, since none depends on the element that it inserts
  pub goes_in : (next_shows : ℕ → Bool) (next_marks : List Bool) (label : ℕ) (edit : Edit)
      → AreEditsOf arrivals edits records → IsListWith shows marks waiting arrivals edits records had settled
      → edit_at edits label ≡ Some edit → had label ≡ false
      → is_marked marks (needed_number arrivals edit) ≡ true
      → AreShown next_shows arrivals records (or_label settled label)
      → AreMarksWith marks next_marks edit
      → ((number : ℕ) → puts number edit ≡ true → labels_under waiting number ≡ [])
      → IsListWithAfter next_shows next_marks waiting arrivals edits records had settled label 1
  unfolding first_freed
  goes_in next_shows next_marks label edit stand kept is new needs after with_it none_for =
      let free = follows [] next_shows next_marks [] label edit stand
      (first_freed label edit stand kept is new needs) is after with_it (record {
        only = λ n found. absurd (none_there n found);
        all = λ n d d_is was_had waits puts_it. absurd (none_there n
            (subst (λ ls. Contains ls n) (none_for (needed_number arrivals d) puts_it)
            (kept.waiting_labels.waits n d d_is was_had waits)));
        once = tt;
      }) in
      all_settled waiting stand kept free
      (λ number n found.
      let (d, d_is, d_needs, was_had, waits) = kept.waiting_labels.only number n found in (
        found,
        false_from_ne_true (free.passes n) (λ it. elim (free.only n it) [
          | inl settled_it ↦ not_both (settled n) waits settled_it
          | inr is_it ↦ elim (head_or_behind label [] n is_it) [
            | inl here ↦ not_both (had n) (ap had (sym here) ∙ new) was_had
            | inr none ↦ none_there n none
          ]
        ]),
      ))
      (λ number n found missing. found) kept.waiting_labels.once

module _ {all : ElementList} {edits : List (Option Edit)} {records : Records} {old_shows : ℕ → Bool}
    {old_marks : List Bool} {waiting : List (ℕ × List ℕ)} {had settled : ℕ → Bool} {shows : ℕ → Bool} {marks : List Bool}
    {labels : List ℕ} {first : ℕ} where
  pub all_follow : (left : List (ℕ × List ℕ)) → AreElementsOf all edits records
      → IsListWith old_shows old_marks waiting all.arrivals edits records had settled
      → IsFreeing shows marks labels [] all.arrivals edits records had settled first
      → ((number : ℕ) → labels_under left number ≡ freed_under edits labels (labels_under waiting) number)
      → IsListWithAfter shows marks left all.arrivals edits records had settled first (length labels)
  all_follow left stands kept free says =
      let stand = edits_stand stands in
      let passes = free.passes in
      let put = is_put_by edits labels in
      let freed : (number : ℕ) → put number ≡ true → is_marked marks number ≡ true =
      λ number is.
      let (m, found, puts_it) = what_passes (λ label. option_map_or (puts number) (edit_at edits label) false) labels
      is in
      marked_label stand free.there m number (puts_at (edit_at edits m) number puts_it) ∙ free.gone m found in
      let goes : (number : ℕ) → put number ≡ true → labels_under left number ≡ [] =
      λ number is. says number ∙ cond-true (put number) [] (labels_under waiting number) is in
      let stays : (number : ℕ) → put number ≡ false → labels_under left number ≡ labels_under waiting number =
      λ number not. says number ∙ cond-false (put number) [] (labels_under waiting number) not in
      all_settled left stand kept free
      (λ number n found. elim (cases_Bool (put number)) [
        | inl is ↦ absurd (none_there n (subst (λ ls. Contains ls n) (goes number is) found))
        | inr not ↦
            let old : Contains (labels_under waiting number) n = subst (λ ls. Contains ls n) (stays number not) found in
            let (d, d_is, d_needs, n_had, n_waits) = kept.waiting_labels.only number n old in
            let old_missing : is_marked old_marks number ≡ false =
            ap (is_marked old_marks) (sym d_needs) ∙ unmarked had stand kept.there
            ((settled_not_pending records had settled).0 kept.settles).2 n d d_is n_had n_waits in
            let not_root : 0 < number = elim (cases_eq number 0) [
              | inl it ↦
                  absurd (not_both (is_marked old_marks number) old_missing
                  (ap (is_marked old_marks) it ∙ root_marked stands kept.there))
              | inr other ↦ omega (arith, other)
            ] in
            let known : number < length all.arrivals = subst (λ (k : ℕ). k < length all.arrivals) d_needs
            (needed_known stand n d d_is) in
            let (m, m_is) = stands.came number not_root known in (
              old,
              false_from_ne_true (passes n) (λ passes_it.
                  let m_passes : passes m ≡ true = sym (marked_label stand free.there m number m_is)
                  ∙ ap (is_marked marks) (sym d_needs) ∙ marked stand free.there free.none_waits n d d_is passes_it in
                  elim (free.only m m_passes) [
                    | inl m_settled ↦
                        not_both (is_marked old_marks number) old_missing
                        (marked_label stand kept.there m number m_is ∙ m_settled)
                    | inr m_found ↦ not_both (put number) not
                        (passes_one (λ label. option_map_or (puts number) (edit_at edits label) false) labels m m_found
                        (at_puts (edit_at edits m) number m_is))
                  ]),
            )
      ])
      (λ number n found missing. subst (λ ls. Contains ls n) (sym (stays number (false_from_ne_true (put number)
      (λ is. not_both (is_marked marks number) missing (freed number is))))) found)
      (λ number. elim (cases_Bool (put number)) [
        | inl is ↦ subst HasNoDuplicates (sym (goes number is)) tt
        | inr not ↦ subst HasNoDuplicates (sym (stays number not)) (kept.waiting_labels.once number)
      ])

-- there are at most as many updates as labels
one_act : (b : Bool) (label : Label) (half : Half) (act : Act)
    → length (updates_of (cond b (part_of label (half, act) ∷ []) [])) ≤ 1
one_act true label half (Does u) = omega arith
one_act true label half (Asks q) = omega arith
one_act false label half act = omega arith

two_acts : (b : Bool) (label : Label) (half other : Half) (u : Update) (q : Query)
    → length (updates_of (cond b (part_of label (half, Asks q) ∷ cond b (part_of label (other, Does u) ∷ []) [])
    (cond b (part_of label (other, Does u) ∷ []) []))) ≤ 1
two_acts true label half other u q = omega arith
two_acts false label half other u q = omega arith

few_acts : (passes : ℕ → Bool) (label : Label) (o : Op)
    → length (updates_of (filter (λ (p : Part). passes p.label.number) (map (part_of label) (acts_of o)))) ≤ 1
few_acts passes label (op.OrRemove x ids) = two_acts (passes label.number) label _ _ _ _
few_acts passes label (op.List (list.Insert insertion)) = two_acts (passes label.number) label _ _ _ _
few_acts passes label (op.List (list.Remove x)) = two_acts (passes label.number) label _ _ _ _
few_acts passes label (op.List (list.Read elements)) = one_act (passes label.number) label _ _
few_acts passes label (op.List (list.Part elements)) = one_act (passes label.number) label _ _
few_acts passes label _ = one_act (passes label.number) label _ _

few_updates : (passes : ℕ → Bool) (labels : List Label) → length (updates_among passes labels) ≤ length labels
few_updates passes [] = omega arith
few_updates passes (label ∷ labels) =
    let test = λ (p : Part). passes p.label.number in
    let own = updates_of (filter test (parts_of label)) in
    let split : updates_among passes (label ∷ labels) ≡ own ++ updates_among passes labels =
    ap updates_of (filter-append test (parts_of label) (flat_map parts_of labels))
    ∙ filter_map-append (λ (p : Part). act_update p.act) (filter test (parts_of label))
    (filter test (flat_map parts_of labels)) in
    omega (
      arith,
      few_acts passes label label.op,
      few_updates passes labels,
      ap length split,
      length-append own
          (updates_among passes labels),
    )

-- so at most all labels follow
pub not_many : {all : ElementList} {edits : List (Option Edit)} {records : Records} {shows : ℕ → Bool} {marks : List Bool}
    {labels ready : List ℕ} {had settled : ℕ → Bool} {first : ℕ} → AreElementsOf all edits records
    → IsFreeing shows marks labels ready all.arrivals edits records had settled first → length labels ≤ length edits
not_many {records = records} stand free = omega (
  arith,
  free.count,
  few_updates free.passes (named_labels Rga records),
  length_permutation (labels_of records) (named_labels Rga records) (named_labels_sorted-same Rga records),
  labels_counted records,
  stand.count,
)
