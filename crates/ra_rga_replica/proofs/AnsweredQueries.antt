-- Lemmas on the answer of a query after all updates that were delivered.
use Rattle.std.proofs.Common.{◌≡◌, ℕ, ◌≤◌, Bool, true, false, cond, List, [], ◌∷◌, length, filter, Option, Some, None, refl, sym, ap, ◌∙◌, subst, inl, inr}
use Rattle.std.specs.Prelude.{◌↔◌, ◌==◌, ◌||◌, ◌&&◌, not, nat_eq, Contains, IsTrue, is_some}
use Rattle.std.specs.List.{list_any}
use Rattle.std.specs.Option.{option_map_or}
use Rattle.std.specs.Cmp.{unsigned_Decides}
use Rattle.std.specs.Cmp.Lexicographic.{pointwise, pointwise_decides}
use Rattle.std.proofs.lemmas.Bool.{true≢false, false≢true, cases_Bool, cond-true, cond-false, false_from_ne_true}
use Rattle.ra_labels.specs.declared.kind.Kind.TheVariants.{Rga}
use Rattle.ra_labels.specs.declared.operation.Update.{Update}
use Rattle.ra_labels.specs.declared.operation.Query.{Query}
use Rattle.ra_labels.specs.declared.operation.Query.TheVariants.{RgaRead}
use Rattle.ra_labels.specs.Lists.{shown}
use Rattle.ra_labels.specs.Late.{kept_entries}
use Rattle.ra_labels.specs.Records.{Records}
use Rattle.ra_labels.specs.Specification.{State, Listed, answers, state_after, is_admitted, is_answered_after}
use Rattle.ra_labels.specs.TheoremTerms.{kind_of_state, elements_in}
use Rattle.ra_labels.specs.Insertion.{updates_passing}
use Rattle.ra_labels.specs.Pending.{is_present_element, removes_element, shown_by, AllSettled}
use Rattle.ra_labels.proofs.InLists.{bool_same}
use Rattle.ra_labels.proofs.Members.{none_there}
use Rattle.ra_theorems.proofs.TheoremIndex.{settled_updates_admitted-all, settled_updates_admitted-same, settled_updates_admitted-settled, updates_admitted_iff_none_pending-shown, state_kind}
use Rattle.ra_rga_elements.specs.ElementList.{ElementList, is_marked, IsKeptByMark}
use Rattle.ra_rga_replica.specs.declared.edit.Edit.{Edit}
use Rattle.ra_rga_replica.specs.PendingLabels.{labels_under}
use Rattle.ra_rga_replica.specs.Edits.{needed_number, AreElementsOf}
use Rattle.ra_rga_replica.specs.ReplicaList.{is_shown_element, IsListWith}
use Rattle.ra_rga_replica.proofs.NoneTwice.{not_both}
use Rattle.ra_rga_replica.proofs.Edits.{all_admitted}

not_some : {A : Type 0} (o : Option A) → is_some o ≡ false → None ≡ o
not_some None is = refl
not_some (Some x) is = absurd (true≢false is)

is_list : (state : State) → kind_of_state state ≡ Rga → (list : List (ℕ × Bool)) × (state ≡ Listed list)
is_list (Listed list) is = (list, refl)
is_list _ is = absurd (cc (is))

listed_in : (o : Option State) → ((state : State) → o ≡ Some state → kind_of_state state ≡ Rga) → is_some o ≡ true
    → (list : List (ℕ × Bool)) × (o ≡ Some (Listed list))
listed_in None of_kind some = absurd (false≢true some)
listed_in (Some state) of_kind some =
    let (list, is) = is_list state (of_kind state refl) in (list, ap (λ (s : State). Some s) is)

-- the list after admitted updates
listed_after : (updates : List Update) → is_admitted Rga updates ≡ true
    → (list : List (ℕ × Bool)) × (state_after Rga updates ≡ Some (Listed list))
listed_after updates admitted = listed_in (state_after Rga updates) (state_kind Rga updates) admitted

-- what is shown of the kept entries
shown_entries : (updates : List Update) (all : List (ℕ × Bool))
    → shown (shown_by updates (kept_entries (λ x. is_present_element x updates) all))
    ≡ filter (λ x. is_shown_element x updates) (elements_in all)
shown_entries updates [] = refl
shown_entries updates (entry ∷ all) =
    let keep = λ (x : ℕ). is_present_element x updates in
    let shows = λ (x : ℕ). not (x == 0 || list_any (removes_element x) updates) in
    let rest = shown_entries updates all in
    elim (cases_Bool (keep entry.0)) [
      | inl present ↦
          ap (λ (es : List (ℕ × Bool)). shown (shown_by updates es))
          (cond-true (keep entry.0) (entry ∷ kept_entries keep all) (kept_entries keep all) present)
          ∙ one_shown entry.0 (shows entry.0) (shown_by updates (kept_entries keep all))
          ∙ (λ i. cond (sym present i && shows entry.0) (entry.0 ∷ rest i) (rest i))
      | inr missing ↦
          ap (λ (es : List (ℕ × Bool)). shown (shown_by updates es))
          (cond-false (keep entry.0) (entry ∷ kept_entries keep all) (kept_entries keep all) missing)
          ∙ (λ i. cond (sym missing i && shows entry.0) (entry.0 ∷ rest i) (rest i))
    ]
  where
    one_shown : (x : ℕ) (b : Bool) (list : List (ℕ × Bool)) → shown ((x, b) ∷ list) ≡ cond b (x ∷ shown list) (shown list)
    one_shown x true list = refl
    one_shown x false list = refl

module _ {all : ElementList} {edits : List (Option Edit)} {records : Records} {shows : ℕ → Bool} {marks : List Bool}
    {waiting : List (ℕ × List ℕ)} {had settled : ℕ → Bool} where
  -- if no label is pending, the settled updates are all delivered ones
  all_had : AreElementsOf all edits records → IsListWith shows marks waiting all.arrivals edits records had settled
      → ((number : ℕ) → labels_under waiting number ≡ [])
      → updates_passing Rga records settled ≡ updates_passing Rga records had
  all_had stand kept none =
      let settle : AllSettled records had settled = λ l u l_in makes was_had.
      let (d, d_is, d_does) = stand.made l u l_in makes in
      elim (cases_Bool (settled l.number)) [
        | inl it ↦ it
        | inr waits ↦
            absurd (none_there l.number (subst (λ ls. Contains ls l.number) (none (needed_number all.arrivals d))
            (kept.waiting_labels.waits l.number d d_is was_had waits)))
      ] in
      let admitted = (settled_updates_admitted-all records had settled (all_admitted stand) kept.settles).1 settle in
      settled_updates_admitted-same records had settled (all_admitted stand) kept.settles admitted

  -- if no label is pending, a read is answered exactly if its list is that of the shown elements
  pub answered : AreElementsOf all edits records → IsListWith shows marks waiting all.arrivals edits records had settled
      → ((number : ℕ) → labels_under waiting number ≡ []) → (test : List Bool) → ((n : ℕ) → shows n ≡ is_marked test n)
      → (listed : List ℕ) (result : Bool)
      → ((keep : ℕ → Bool) → IsKeptByMark keep test all.arrivals
      → ((n : ℕ) → length all.arrivals ≤ n → is_marked test n ≡ false)
      → IsTrue result ↔ (listed ≡ filter keep all.elements))
      → result ≡ is_answered_after Rga (updates_passing Rga records had) (RgaRead listed)
  answered stand kept none test same listed result told =
      let ups = updates_passing Rga records settled in
      let (full, led, elements) = stand.listed in
      let (list, is) = listed_after ups (settled_updates_admitted-settled records had settled (all_admitted stand)
      kept.settles) in
      let showing : shown list ≡ filter (λ x. is_shown_element x ups) all.elements =
      ap shown (updates_admitted_iff_none_pending-shown records settled list full led is)
      ∙ shown_entries ups full ∙ ap (filter (λ x. is_shown_element x ups)) elements in
      let exactly = told (λ x. is_shown_element x ups) (λ n known. sym (kept.shown.shown n known) ∙ same n)
      (λ n beyond. sym (same n) ∙ kept.shown.others n beyond) in
      bool_same result (pointwise nat_eq listed (shown list))
      (λ holds. (pointwise_decides unsigned_Decides listed (shown list)).1 (exactly.0 holds ∙ sym showing))
      (λ holds. exactly.1 ((pointwise_decides unsigned_Decides listed (shown list)).0 holds ∙ showing))
      ∙ ap (λ (o : Option State). option_map_or (λ state. answers state (RgaRead listed)) o false) (sym is)
      ∙ ap (λ us. is_answered_after Rga us (RgaRead listed)) (all_had stand kept none)

  -- if a label is pending, no query is answered
  pub unanswered : AreElementsOf all edits records
      → IsListWith shows marks waiting all.arrivals edits records had settled
      → (number n : ℕ) → Contains (labels_under waiting number) n → (query : Query)
      → false ≡ is_answered_after Rga (updates_passing Rga records had) query
  unanswered stand kept number n found query =
      let (d, d_is, d_needs, was_had, waits) = kept.waiting_labels.only number n found in
      let (l, l_in, l_num, l_makes) = stand.makes n d d_is in
      ap (λ (o : Option State). option_map_or (λ state. answers state query) o false)
      (not_some (state_after Rga (updates_passing Rga records had))
      (false_from_ne_true (is_admitted Rga (updates_passing Rga records had)) (λ admitted.
      not_both (settled n) waits (ap settled (sym l_num)
      ∙ (settled_updates_admitted-all records had settled (all_admitted stand) kept.settles).0 admitted l _ l_in
      l_makes (ap had l_num ∙ was_had)))))

-- a query of another kind is not answered
other_answer : (list : List (ℕ × Bool)) (query : Query) → ((listed : List ℕ) → ¬ (query ≡ RgaRead listed))
    → false ≡ answers (Listed list) query
other_answer list (RgaRead listed) other = absurd (other listed refl)
other_answer list _ other = refl

pub other_unanswered : (updates : List Update) (query : Query) → ((listed : List ℕ) → ¬ (query ≡ RgaRead listed))
    → false ≡ is_answered_after Rga updates query
other_unanswered updates query other = elim (cases_Bool (is_admitted Rga updates)) [
  | inl admitted ↦
      let (list, is) = listed_after updates admitted in
      other_answer list query other
      ∙ ap (λ (o : Option State). option_map_or (λ state. answers state query) o false) (sym is)
  | inr never ↦
      ap (λ (o : Option State). option_map_or (λ state. answers state query) o false)
      (not_some (state_after Rga updates) never)
]
