-- Lemmas on lists: where any sequence linearizes the records, the execution order does. An update needs elements that
-- its label sees the insertions of, so it stands behind them in each order that respects visibility.
use Rattle.std.proofs.Common.{◌≡◌, ℕ, true, List, ◌∷◌, ◌++◌, filter, Some, refl, sym, ap, ◌∙◌, subst, inl, inr, arith}
use Rattle.std.specs.Prelude.{◌==◌, not, is_some, Contains}
use Rattle.std.specs.List.{list_all, cons_option}
use Rattle.std.proofs.lemmas.Bool.{false≢true, and_parts, and_from, or_cases, eqb-true, not-true}
use Rattle.std.proofs.lemmas.List.Elements.{Contains-append_left, Contains-append_right, Contains-append_cases, filter_map-append}
use Rattle.std.proofs.lemmas.List.Sorted.{Contains-permutation, IsPermutation-sym, sum_by-IsPermutation}
use Rattle.ra_labels.specs.declared.kind.Kind.TheVariants as kinds
use Rattle.ra_labels.specs.declared.insertion.Insertion.{Insertion}
use Rattle.ra_labels.specs.declared.list_operation.ListUpdate.{ListUpdate}
use Rattle.ra_labels.specs.declared.list_operation.ListUpdate.TheVariants.{Put, Hide}
use Rattle.ra_labels.specs.declared.list_operation.ListQuery.{ListQuery}
use Rattle.ra_labels.specs.declared.list_operation.ListQuery.TheVariants.{Near, Has}
use Rattle.ra_labels.specs.declared.operation.Op.{Op}
use Rattle.ra_labels.specs.declared.operation.Update.{Update}
use Rattle.ra_labels.specs.declared.operation.Update.TheVariants as updates
use Rattle.ra_labels.specs.declared.operation.Query.TheVariants as queries
use Rattle.ra_labels.specs.FreeList.{ListState, empty_list, is_neighbor, list_step, list_state_after, list_answers}
use Rattle.ra_labels.specs.Lists.{is_among}
use Rattle.ra_labels.specs.Records.{Records, labels_of}
use Rattle.ra_labels.specs.Visibility.{sees}
use Rattle.ra_labels.specs.Rewriting.{Part, Half, Act, QueryHalf, Does, Asks, acts_of, part_of, parts_of, update_of, updates_of}
use Rattle.ra_labels.specs.Specification.{State, Listing, answers, state_after}
use Rattle.ra_labels.specs.Linearization.{parts_in, is_visible_to, must_precede, extends, visible_updates}
use Rattle.ra_labels.specs.NamedOrder.{named_sequence}
use Rattle.ra_labels.specs.Answer.{is_kind}
use Rattle.ra_labels.specs.TheoremTerms.{kind_of_update}
use Rattle.ra_labels.specs.Fault.{Holds}
use Rattle.ra_labels.proofs.InLists.{list_all-contains, list_all-from_contains, among-exactly}
use Rattle.ra_labels.proofs.Members.{head_or_behind, at_head, split_at, kept-there, there-kept, reached, piece_of, in_piece, none_there}
use Rattle.ra_labels.proofs.Parts.{part_is_of, extends-behind}
use Rattle.ra_list_model.specs.Kept.{Puts, Needs}
use Rattle.ra_list_model.proofs.AdmittedUpdates.{PutsOne, led_from, step_inserted, inserted_from}
use Rattle.ra_list_model.proofs.KeptUpdates.{inserts_new, no_second, needs_there}
use Rattle.ra_list_model.proofs.LateUpdates.{in_parts}
use Rattle.ra_list_model.proofs.ReorderedUpdates.{reordered_admitted}
use Rattle.ra_list_model.proofs.RisingStates.{same_updates_same}
use Rattle.ra_theorems.proofs.States.{admitted-only}
use Rattle.ra_theorems.proofs.Meanings.{some-exactly, queries-exactly}
use Rattle.ra_theorems.proofs.SeenLabels.{sees_earlier}
use Rattle.ra_theorems.proofs.Faults.{IsPermutation-named_sequence}
use Rattle.ra_theorems.proofs.Extensions.{extends-weaker}
use Rattle.ra_theorems.proofs.Ranks.{list-extends}
use Rattle.ra_theorems.proofs.CountedParts.{sum_same}
use Rattle.ra_theorems.proofs.Deliveries.{op_of, part_makes, made_by}
use Rattle.ra_theorems.proofs.FilterMaps.{split_map, mapped_from, mapped_there}
use Rattle.ra_theorems.proofs.AmongParts.{AreAmong, updates_among, filter_among, seen_by, extends-filter, Linearizes, named_in, in_named, seen_must_precede}
use Rattle.ra_theorems.proofs.ListUpdates.{changes_lead, lead_to_listing, change_in, changes_in, changes-of_parts, change_does, does_change, HaveSameSums, changes_shuffled}

-- ---- admitted updates of a list

-- the updates around one that inserts an element do not insert it
once_put : (before behind : List ListUpdate) (u : ListUpdate) (x : ℕ) (s : ListState)
    → list_state_after (before ++ u ∷ behind) ≡ Some s → PutsOne u x → (¬ Puts x before) × (¬ Puts x behind)
once_put before behind u x s led here =
    let (r, so_far, rest) = led_from (list_state_after before) (u ∷ behind) s
    (sym (in_parts before (u ∷ behind) (Some empty_list)) ∙ led) in
    let (t, step, on) = led_from (list_step r u) behind s rest in (
      (λ puts. inserts_new r t u x step here ((inserted_from before empty_list r x so_far).1 (inr puts))),
      (λ puts. no_second behind t s x on ((step_inserted r t u x step).1 (inl here)) puts),
    )

-- each element that an admitted update needs is inserted by one of the updates
pub needs_put : (us : List ListUpdate) (s : ListState) (u : ListUpdate) (x : ℕ) → list_state_after us ≡ Some s
    → Contains us u → Needs u x → Puts x us
needs_put us s u x led there needs =
    let (before, behind, split) = split_at us u there in
    let (r, so_far, rest) = led_from (list_state_after before) (u ∷ behind) s
    (sym (in_parts before (u ∷ behind) (Some empty_list)) ∙ ap list_state_after (sym split) ∙ led) in
    let (t, step, on) = led_from (list_step r u) behind s rest in
    elim ((inserted_from before empty_list r x so_far).0 (needs_there r t u x step needs)) [
      | inl none ↦ absurd (none_there x none)
      | inr (insertion, found, is) ↦ (
        insertion,
        subst (λ vs. Contains vs (Put insertion)) (sym split)
            (Contains-append_left before (u ∷ behind) (Put insertion) found),
        is,
      )
    ]

-- ---- parts that insert an element

-- holds if the part inserts the element
abbrev pub Inserts : Part → ℕ → Type 0
Inserts p x = (insertion : Insertion) × (p.act ≡ Does (updates.List (Put insertion))) × (insertion.element ≡ x)

pub inserting_part : (ps : List Part) (x : ℕ) → Puts x (changes_in ps) → (p : Part) × Contains ps p × Inserts p x
inserting_part ps x (insertion, there, is) =
    let (p, found, maps) = mapped_from change_in ps (Put insertion) there in
    (p, found, (insertion, change_does p (Put insertion) maps, is))

part_puts : (ps : List Part) (p : Part) (x : ℕ) → Contains ps p → Inserts p x → Puts x (changes_in ps)
part_puts ps p x there (insertion, does, is) =
    (insertion, mapped_there change_in ps p (Put insertion) there (does_change p (Put insertion) does), is)

-- where the updates of parts are admitted, one part inserts an element
one_inserts : (ps : List Part) (s : ListState) (p q : Part) (x : ℕ) → list_state_after (changes_in ps) ≡ Some s
    → Contains ps p → Contains ps q → Inserts p x → Inserts q x → p ≡ q
one_inserts ps s p q x led p_there q_there (insertion, does, is) q_inserts =
    let (first, later, split) = split_at ps p p_there in
    let put = does_change p (Put insertion) does in
    let parts : changes_in ps ≡ changes_in first ++ Put insertion ∷ changes_in later =
    ap changes_in split ∙ filter_map-append change_in first (p ∷ later)
    ∙ ap (λ o. changes_in first ++ cons_option o (changes_in later)) put in
    let none = once_put (changes_in first) (changes_in later) (Put insertion) x s
    (ap list_state_after (sym parts) ∙ led) is in
    elim (Contains-append_cases first (p ∷ later) q (subst (λ rs. Contains rs q) split q_there)) [
      | inl early ↦ absurd (none.0 (part_puts first q x early q_inserts))
      | inr behind ↦ elim (head_or_behind p later q behind) [
        | inl same ↦ same
        | inr late ↦ absurd (none.1 (part_puts later q x late q_inserts))
      ]
    ]

-- ---- another order of parts

-- holds if each element that a part's update needs is inserted by a part that its label sees
abbrev SeesWhatIsNeeded : Records → List Part → Type 0
SeesWhatIsNeeded records ps = (p : Part) (change : ListUpdate) (x : ℕ) → Contains ps p
    → p.act ≡ Does (updates.List change) → Needs change x
    → (q : Part) × Contains ps q × Inserts q x × (sees records p.label.number q.label.number ≡ true)

-- in an order that respects visibility, a part that a label sees is before the parts of the label
seen_before : (records : Records) (first later : List Part) (p q : Part) (x : ℕ)
    → extends (is_visible_to records) (first ++ p ∷ later) ≡ true → Contains (first ++ p ∷ later) q → Inserts q x
    → sees records p.label.number q.label.number ≡ true → Contains first q
seen_before records first later p q x extended there (insertion, does, is) seen =
    elim (Contains-append_cases first (p ∷ later) q there) [
      | inl early ↦ early
      | inr behind ↦ elim (head_or_behind p later q behind) [
        | inl same ↦
            let below = (sees_earlier records p.label.number q.label.number seen).0 in
            absurd (omega (arith, below, ap (λ (r : Part). r.label.number) same))
        | inr late ↦
            let rest = extends-behind (is_visible_to records) first (p ∷ later) extended in
            let none = (and_parts (list_all (λ r. not (is_visible_to records r p)) later)
            (extends (is_visible_to records) later) rest).0 in
            let hidden = not-true (is_visible_to records q p)
            (list_all-contains (λ r. not (is_visible_to records r p)) later q none late) in
            let visible : is_visible_to records q p ≡ true =
            and_from (is_some (update_of q.act)) (sees records p.label.number q.label.number)
            (ap (λ act. is_some (update_of act)) does) seen in
            absurd (false≢true (sym hidden ∙ visible))
      ]
    ]

needed_before : (records : Records) (ps : List Part) → extends (is_visible_to records) ps ≡ true
    → SeesWhatIsNeeded records ps → (before behind : List ListUpdate) (change : ListUpdate) (x : ℕ)
    → changes_in ps ≡ before ++ change ∷ behind → Needs change x → Puts x before
needed_before records ps extended see before behind change x is needs =
    let (first, later, p, split, maps, same) = split_map change_in ps before change behind is in
    let there = Contains-append_right first (p ∷ later) p (at_head p later p refl) in
    let (q, found, inserts, seen) =
    see p change x (subst (λ rs. Contains rs p) (sym split) there) (change_does p change maps) needs in
    let early = seen_before records first later p q x
    (subst (λ rs. extends (is_visible_to records) rs ≡ true) split extended)
    (subst (λ rs. Contains rs q) split found) inserts seen in
    subst (Puts x) same (part_puts first q x early inserts)

-- parts in another order that respects visibility lead to the same state
same_listing : (records : Records) (ps qs : List Part) (state : State)
    → state_after kinds.List (updates_of ps) ≡ Some state → HaveSameSums ps qs → AreAmong qs ps
    → extends (is_visible_to records) qs ≡ true → SeesWhatIsNeeded records qs
    → state_after kinds.List (updates_of qs) ≡ Some state
same_listing records ps qs state led same among extended see =
    let (s, is, after) = changes_lead (updates_of ps) state led in
    let first : list_state_after (changes_in ps) ≡ Some s =
    ap list_state_after (sym (changes-of_parts ps)) ∙ after in
    let moved = changes_shuffled ps qs same in
    let back = IsPermutation-sym (changes_in ps) (changes_in qs) moved in
    let (t, second) = reordered_admitted (changes_in ps) (changes_in qs) s first moved
    (needed_before records qs extended see) in
    let equal : s ≡ t = same_updates_same (changes_in ps) (changes_in qs) s t first second (λ u. (
      Contains-permutation (changes_in ps) (changes_in qs) u moved,
      Contains-permutation (changes_in qs) (changes_in ps) u back,
    )) in
    let test : Update → _ = λ u. is_kind kinds.List (kind_of_update u) in
    let of_lists = list_all-from_contains test (updates_of qs) (λ u found.
    list_all-contains test (updates_of ps) u (admitted-only kinds.List (updates_of ps) (ap is_some led))
    (updates_among qs ps among u found)) in
    lead_to_listing (updates_of qs) t of_lists (ap list_state_after (changes-of_parts qs) ∙ second)
    ∙ ap (λ r. Some (Listing r)) (sym equal) ∙ ap Some (sym is)

-- ---- what the label of an update sees

-- the query half of the operation that makes the update
abbrev question_of : ListUpdate → ListQuery
question_of (Put insertion) = Near insertion
question_of (Hide x) = Has x

needs_asked : (change : ListUpdate) (s : ListState) (x : ℕ) → list_answers s (question_of change) ≡ true
    → Needs change x → Contains s.inserted x
needs_asked (Put insertion) s x answered (some, which) =
    let near = and_parts (is_neighbor s insertion.left) (is_neighbor s insertion.right) answered in
    elim which [
      | inl left ↦ neighbor_there (subst (λ y. is_neighbor s y ≡ true) left near.0)
      | inr right ↦ neighbor_there (subst (λ y. is_neighbor s y ≡ true) right near.1)
    ]
  where
    neighbor_there : is_neighbor s x ≡ true → Contains s.inserted x
    neighbor_there is = elim (or_cases (x == 0) (is_among x s.inserted) is) [
      | inl none ↦ absurd (some (eqb-true x 0 none))
      | inr there ↦ (among-exactly x s.inserted).0 there
    ]
needs_asked (Hide y) s x answered is = subst (Contains s.inserted) is ((among-exactly y s.inserted).0 answered)

asks_first : (operation : Op) (change : ListUpdate) → operation ≡ op_of (updates.List change)
    → Contains (acts_of operation) (QueryHalf, Asks (queries.List (question_of change)))
asks_first operation (Put insertion) is =
    subst (λ o. Contains (acts_of o) (QueryHalf, Asks (queries.List (Near insertion)))) (sym is) (0, omega arith, refl)
asks_first operation (Hide x) is =
    subst (λ o. Contains (acts_of o) (QueryHalf, Asks (queries.List (Has x)))) (sym is) (0, omega arith, refl)

-- the query half of the label of a part that does an update
asking_part : (records : Records) (p : Part) (change : ListUpdate) → Contains (parts_in records) p
    → p.act ≡ Does (updates.List change)
    → (q : Part) × Contains (parts_in records) q × (q.act ≡ Asks (queries.List (question_of change)))
    × (q.label ≡ p.label)
asking_part records p change there does =
    let (label, found, of_label) = piece_of parts_of (labels_of records) p there in
    let operation = made_by label.op (updates.List change) (part_makes label p (updates.List change) of_label does) in
    let asks : Half × Act = (QueryHalf, Asks (queries.List (question_of change))) in
    let q_there = reached (part_of label) (acts_of label.op) asks (asks_first label.op change operation) in (
      part_of label asks,
      in_piece parts_of (labels_of records) label (part_of label asks) found q_there,
      refl,
      sym (part_is_of label p of_label),
    )

listing_answers : (s : ListState) (state : State) (question : ListQuery) → state ≡ Listing s
    → answers state (queries.List question) ≡ true → list_answers s question ≡ true
listing_answers s state question is answered = subst (λ r. answers r (queries.List question) ≡ true) is answered

module _ (records : Records) (sequence : List Part) (linearizes : Linearizes kinds.List records sequence) where
  abbrev named : List Part
  named = named_sequence kinds.List records

  in_records : AreAmong sequence (parts_in records)
  in_records p there = Contains-permutation sequence (parts_in records) p
      (IsPermutation-sym (parts_in records) sequence linearizes.each_part_once) there

  -- a label sees the insertion of each element that its update needs
  sees_insertion : (p : Part) (change : ListUpdate) (x : ℕ) → Contains sequence p
      → p.act ≡ Does (updates.List change) → Needs change x
      → (q : Part) × Contains sequence q × Inserts q x × (sees records p.label.number q.label.number ≡ true)
  sees_insertion p change x there does needs =
      let (asking, found, asks, same) = asking_part records p change (in_records p there) does in
      let asking_there = Contains-permutation (parts_in records) sequence asking linearizes.each_part_once found in
      let n = asking.label.number in
      let (state, led, answered) = (queries-exactly kinds.List records sequence).0 linearizes.queries asking
      (queries.List (question_of change)) asking_there asks in
      let visible = filter (seen_by records n) sequence in
      let (s, is, after) = changes_lead (updates_of visible) state led in
      let lists : list_state_after (changes_in visible) ≡ Some s =
      ap list_state_after (sym (changes-of_parts visible)) ∙ after in
      let inserted = needs_asked change s x (listing_answers s state (question_of change) is answered) needs in
      elim ((inserted_from (changes_in visible) empty_list s x lists).0 inserted) [
        | inl none ↦ absurd (none_there x none)
        | inr puts ↦
            let (q, q_found, inserts) = inserting_part visible x puts in
            let kept = there-kept (seen_by records n) sequence q q_found in
            (q, kept.0, inserts, subst (λ l. sees records l.number q.label.number ≡ true) same kept.1)
      ]

  named_sees : SeesWhatIsNeeded records named
  named_sees p change x there does needs =
      let (q, found, inserts, seen) =
      sees_insertion p change x (named_in kinds.List records sequence linearizes p there) does needs in
      (q, in_named kinds.List records sequence linearizes q found, inserts, seen)

  -- and so it is among the updates that another label sees, where the updates that this one sees are admitted
  visible_sees : (n : ℕ) (state : State) → state_after kinds.List (visible_updates records sequence n) ≡ Some state
      → SeesWhatIsNeeded records (filter (seen_by records n) named)
  visible_sees n state led p change x there does needs =
      let visible = filter (seen_by records n) sequence in
      let kept = there-kept (seen_by records n) named p there in
      let (q, found, inserts, seen) = named_sees p change x kept.0 does needs in
      let (s, is, after) = changes_lead (updates_of visible) state led in
      let lists : list_state_after (changes_in visible) ≡ Some s =
      ap list_state_after (sym (changes-of_parts visible)) ∙ after in
      let p_seen = kept-there (seen_by records n) sequence p
      (named_in kinds.List records sequence linearizes p kept.0) kept.1 in
      let change_there = mapped_there change_in visible p change p_seen (does_change p change does) in
      let (r, r_found, r_inserts) =
      inserting_part visible x (needs_put (changes_in visible) s change x lists change_there needs) in
      let r_kept = there-kept (seen_by records n) sequence r r_found in
      let (all_state, all_led) = (some-exactly (state_after kinds.List (updates_of sequence))).0 linearizes.updates in
      let (t, all_is, all_after) = changes_lead (updates_of sequence) all_state all_led in
      let all_lists : list_state_after (changes_in sequence) ≡ Some t =
      ap list_state_after (sym (changes-of_parts sequence)) ∙ all_after in
      let same : r ≡ q = one_inserts sequence t r q x all_lists r_kept.0
      (named_in kinds.List records sequence linearizes q found) r_inserts inserts in
      let q_kept = kept-there (seen_by records n) named q found
      (subst (λ (part : Part). sees records n part.label.number ≡ true) same r_kept.1) in
      (q, q_kept, inserts, seen)

  -- ---- the execution order

  same_sums : HaveSameSums sequence named
  same_sums f =
      sum_by-IsPermutation f (parts_in records) sequence linearizes.each_part_once
      ∙ sym (sum_by-IsPermutation f (parts_in records) named (IsPermutation-named_sequence kinds.List records))

  visible_sums : (n : ℕ) → HaveSameSums (filter (seen_by records n) sequence) (filter (seen_by records n) named)
  visible_sums n f =
      sym (sum_same f (seen_by records n) (parts_in records) sequence linearizes.each_part_once)
      ∙ sum_same f (seen_by records n) (parts_in records) named (IsPermutation-named_sequence kinds.List records)

  named_extends : extends (is_visible_to records) named ≡ true
  named_extends =
      extends-weaker (must_precede records) (is_visible_to records) (seen_must_precede records) named
      (list-extends records)

  named_leads : (state : State) → state_after kinds.List (updates_of sequence) ≡ Some state
      → state_after kinds.List (updates_of named) ≡ Some state
  named_leads state led =
      same_listing records sequence named state led same_sums (named_in kinds.List records sequence linearizes)
      named_extends named_sees

  visible_leads : (n : ℕ) (state : State) → state_after kinds.List (visible_updates records sequence n) ≡ Some state
      → state_after kinds.List (visible_updates records named n) ≡ Some state
  visible_leads n state led =
      same_listing records (filter (seen_by records n) sequence) (filter (seen_by records n) named) state led
      (visible_sums n)
      (filter_among named sequence (seen_by records n) (named_in kinds.List records sequence linearizes))
      (extends-filter (is_visible_to records) (seen_by records n) named named_extends) (visible_sees n state led)

  pub named_list_linearizes : Holds kinds.List records
  named_list_linearizes =
      let (state, led) = (some-exactly (state_after kinds.List (updates_of sequence))).0 linearizes.updates in
      record {
        each_part_once = IsPermutation-named_sequence kinds.List records;
        visibility = list-extends records;
        updates = ap is_some (named_leads state led);
        queries = (queries-exactly kinds.List records named).1 (λ part query there asks.
            let (seen, leads, answered) = (queries-exactly kinds.List records sequence).0 linearizes.queries part query
            (named_in kinds.List records sequence linearizes part there) asks in
            (seen, visible_leads part.label.number seen leads, answered));
        explained = linearizes.explained;
      }
