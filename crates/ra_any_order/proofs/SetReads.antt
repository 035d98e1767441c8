-- Lemmas on a read of an LWW set: the conditions of the elements that it checks, and the earlier ones, require what its
-- answer does.
use Rattle.std.proofs.Common.{◌≡◌, ℕ, ◌<◌, Bool, true, false, List, [], ◌++◌, Option, Some, None, BTreeMap, refl, sym, ap, ◌∙◌, subst, inl, inr, arith}
use Rattle.std.specs.Prelude.{◌⊎◌, not, IfSome, slice_get, option_map, Contains}
use Rattle.std.proofs.lemmas.Bool.{cases_Bool, false≢true}
use Rattle.std.proofs.lemmas.Option.{same_Some}
use Rattle.std.proofs.lemmas.List.Elements.{Contains-append_left, Contains-append_right}
use Rattle.ra_labels.specs.declared.operation.Op.{Op}
use Rattle.ra_labels.specs.declared.operation.Op.TheVariants as op
use Rattle.ra_labels.specs.declared.label.Label.{Label}
use Rattle.ra_labels.specs.Lists.{is_among}
use Rattle.ra_labels.specs.Records.{Records, label_count, labels_of, label_at}
use Rattle.ra_labels.specs.Visibility.{sees}
use Rattle.ra_labels.specs.Places.{issuer_of}
use Rattle.ra_labels.proofs.InLists.{among-exactly}
use Rattle.ra_labels.proofs.Members.{none_there, from_where, reached}
use Rattle.ra_theorems.proofs.TheoremIndex.{label_at_each_number-found}
use Rattle.ra_precedence.specs.Conditions.{Condition, Meets, MeetsAll}
use Rattle.ra_some_order.specs.VisibleUpdates.{visible_labels, numbers_where, elements_in, HasOperation}
use Rattle.ra_some_order.specs.UpdateConditions.{element_condition, read_conditions}
use Rattle.ra_some_order.specs.PlainConditions.{IsPossibleRead}
use Rattle.ra_some_order.specs.LabelOrders.{Narrows}
use Rattle.ra_some_order.proofs.MetConditions.{number_there, visible_there, there_visible, from_visible}
use Rattle.ra_some_order.proofs.LabelSequences.{label_here}
use Rattle.ra_any_order.specs.Reading.{passes_at}
use Rattle.ra_any_order.specs.Changes.{changes, is_seen_by, read_list, list_of}
use Rattle.ra_any_order.specs.Elements.{leads, narrow_element, AreNewestOf, AreElementsAdded}
use Rattle.ra_any_order.specs.Finding.{AreFound}
use Rattle.ra_any_order.specs.Requirements.{Answer, IsRequired, IsPossibleElement, AreConditionsBelow, AreReadConditions}
use Rattle.ra_any_order.proofs.NarrowSides.{AreListed, test_at}
use Rattle.ra_any_order.proofs.ElementReads.{leads_changes, changed_by, change_there, full_element, full_is, named_changed, element_narrows, possible_element}
use Rattle.ra_any_order.proofs.SeenBefore.{seen_later}

-- the test of a visible label
label_passes : (records : Records) (operations : List Op) → AreListed records operations → (n x : ℕ) (label : Label)
    → Contains (visible_labels records n) label → changes x label.op ≡ true
    → (sees records n label.number ≡ true) × (passes_at operations (changes x) label.number ≡ true)
label_passes records operations listed n x label seen passes =
    let (there, is) = there_visible records n label seen in (
      is,
      test_at records operations listed n [] (λ m nothing. absurd (none_there m nothing))
          (changes x) label there ∙ passes,
    )

-- ---- an element that did not change since the last read
module _ (records : Records) (operations : List Op) (listed : AreListed records operations) (q n : ℕ) (less : q < n)
    (below : n < label_count records) (same : issuer_of records q ≡ issuer_of records n) (x : ℕ)
    (no_new : (k : ℕ) → sees records n k ≡ true → passes_at operations (changes x) k ≡ true
    → sees records q k ≡ true) where
  abbrev now : List Label
  now = visible_labels records n

  abbrev before : List Label
  before = visible_labels records q

  still_visible : (label : Label) → Contains before label → Contains now label
  still_visible label seen =
      let (there, is) = there_visible records q label seen in
      visible_there records n label there (seen_later records q n label.number less below same is)

  was_visible : (label : Label) → Contains now label → changes x label.op ≡ true → Contains before label
  was_visible label seen passes =
      let (is, at) = label_passes records operations listed n x label seen passes in
      visible_there records q label (there_visible records n label seen).0 (no_new label.number is at)

  still_has : (operation : Op) → HasOperation before operation → HasOperation now operation
  still_has operation (label, seen, is) = (label, still_visible label seen, is)

  was_changed : Contains (elements_in now) x → Contains (elements_in before) x
  was_changed there =
      let (label, seen, passes) = changed_by now x there in
      change_there before x label (was_visible label seen passes) passes

  still_side : (side : Bool) (k : ℕ) → Contains (numbers_where (leads side x) before) k
      → Contains (numbers_where (leads side x) now) k
  still_side side k there =
      let (label, seen, passes, numbered) = from_visible records q (leads side x) k there in
      subst (Contains (numbers_where (leads side x) now)) numbered
      (number_there (leads side x) now label (still_visible label seen) passes)

  was_side : (side : Bool) (k : ℕ) → Contains (numbers_where (leads side x) now) k
      → Contains (numbers_where (leads side x) before) k
  was_side side k there =
      let (label, seen, passes, numbered) = from_visible records n (leads side x) k there in
      subst (Contains (numbers_where (leads side x) before)) numbered
      (number_there (leads side x) before label
      (was_visible label seen (leads_changes side x label.op passes)) passes)

  narrows_still : (side : Bool) (condition : Condition) → Narrows records (full_element before side x) condition
      → Narrows records (full_element now side x) condition
  narrows_still side condition it = record {
    before = λ b there. still_side (not side) b (it.before b there);
    after = λ c there. still_side side c (it.after c there);
    kept =
        λ k which. elim which [
          | inl first ↦ it.kept k (inl (was_side (not side) k first))
          | inr second ↦ it.kept k (inr (was_side side k second))
        ];
  }

  module _ (list earlier : List ℕ) (same_side : is_among x list ≡ is_among x earlier)
      (is : slice_get operations q ≡ Some (op.LwwRead earlier)) (conditions : List Condition)
      (kept : AreConditionsBelow records n conditions) where
    read_here : (label : Label) × (label_at records q ≡ Some label) × (op.LwwRead earlier ≡ label.op)
    read_here =
        let (label, there, numbered) = label_here records q (omega (arith, less, below)) in
        let at : label_at records q ≡ Some label =
        subst (λ j. label_at records j ≡ Some label) numbered (label_at_each_number-found records label there) in
        (label, at, same_Some (op.LwwRead earlier) label.op (sym is ∙ listed q ∙ ap (option_map (λ (l : Label). l.op)) at))

    pub met_before : (order : List ℕ) → MeetsAll order conditions → Contains (elements_in now) x
        → (condition : Condition) × Narrows records (element_condition now list x) condition × Meets order condition
    met_before order meets changed =
        let (label, at, read) = read_here in
        let side = is_among x earlier in
        let (condition, narrows, met) = (kept.in_turn q less order meets).read label at (element_condition before earlier x)
        (subst (λ o. Contains (read_conditions before o) (element_condition before earlier x)) read
        (reached (element_condition before earlier) (elements_in before) x (was_changed changed))) in (
          condition,
          subst (λ c. Narrows records c condition) (sym (full_is now list x side same_side))
              (narrows_still side condition
              (subst (λ c. Narrows records c condition) (full_is before earlier x side refl) narrows)),
          met,
        )

    possible_before : IsPossibleRead before (op.LwwRead earlier)
    possible_before =
        let (label, at, read) = read_here in
        subst (IsPossibleRead before) (sym read) (kept.possible q less label at)

    pub still_possible : IsPossibleElement now list x
    still_possible = (
      λ there. still_has (op.LwwAdd x) (possible_before.0 x
          ((among-exactly x earlier).0 (sym same_side ∙ (among-exactly x list).1 there))),
      λ changed not_there. still_has (op.LwwRemove x) (possible_before.1 x (was_changed changed)
          (λ there. not_there ((among-exactly x list).0 (same_side ∙ (among-exactly x earlier).1 there)))),
    )

-- ---- all elements
module _ (records : Records) (operations : List Op) (listed : AreListed records operations) (label : Label)
    (here : Contains (labels_of records) label) (below : label.number < label_count records) (list : List ℕ)
    (is : label.op ≡ op.LwwRead list) (last : Option ℕ)
    (was : IfSome last (λ q. (q < label.number) × (issuer_of records q ≡ issuer_of records label.number)
    × ((earlier : List ℕ) × (slice_get operations q ≡ Some (op.LwwRead earlier))))) (found : BTreeMap (ℕ × ℕ) ℕ)
    (elements : List ℕ) (are : AreFound records operations last label.number found elements) (bound : ℕ)
    (few : (k : ℕ) → sees records label.number k ≡ true → issuer_of records k < bound) (is_listed : ℕ → Bool)
    (listed_is : (x : ℕ) → is_listed x ≡ is_among x list)
    (flips : (x : ℕ) → Contains elements x ⊎ (is_listed x ≡ is_among x (list_of operations last)))
    (conditions : List Condition) (kept : AreConditionsBelow records label.number conditions)
    (added : List Condition) (all : AreElementsAdded operations found bound is_listed elements added) where
  abbrev n : ℕ
  n = label.number

  abbrev visible : List Label
  visible = visible_labels records n

  asked : (x : ℕ) → Contains (elements_in visible) x
      → Contains (read_conditions visible label.op) (element_condition visible list x)
  asked x changed = subst (λ o. Contains (read_conditions visible o) (element_condition visible list x)) (sym is)
      (reached (element_condition visible list) (elements_in visible) x changed)

  narrows_at : (x : ℕ) (newest : List ℕ) → AreNewestOf found x bound newest
      → Narrows records (element_condition visible list x) (narrow_element operations newest (is_listed x) x)
  narrows_at x newest of =
      subst (λ c. Narrows records c (narrow_element operations newest (is_listed x) x))
      (sym (full_is visible list x (is_listed x) (sym (listed_is x))))
      (element_narrows records operations listed n found are.newest bound few x newest of (is_listed x))

  -- each condition is required
  required_at : (x : ℕ) (newest : List ℕ) → AreNewestOf found x bound newest
      → IsRequired records (narrow_element operations newest (is_listed x) x)
  required_at x newest of b first =
      let narrows = narrows_at x newest of in (
        n,
        Answer label (element_condition visible list x) (label_at_each_number-found records label here)
            (asked x (named_changed records n list x b (inl (narrows.before b first)))) narrows,
      )

  -- an element that is not checked did not change since the last read
  unchanged : (x : ℕ) → ¬ Contains elements x → (Goal : Type 0)
      → ((q : ℕ) → (less : q < n) → (same : issuer_of records q ≡ issuer_of records n)
      → ((k : ℕ) → sees records n k ≡ true → passes_at operations (changes x) k ≡ true → sees records q k ≡ true)
      → (earlier : List ℕ) → is_among x list ≡ is_among x earlier
      → slice_get operations q ≡ Some (op.LwwRead earlier) → Goal)
      → (is_among x list ≡ false → ¬ Contains (elements_in visible) x → Goal) → Goal
  unchanged x not_there Goal if_read if_none = go last was flips are.listed
    where
      go : (o : Option ℕ)
          → IfSome o (λ q. (q < label.number) × (issuer_of records q ≡ issuer_of records label.number)
          × ((earlier : List ℕ) × (slice_get operations q ≡ Some (op.LwwRead earlier))))
          → ((y : ℕ) → Contains elements y ⊎ (is_listed y ≡ is_among y (list_of operations o)))
          → ((y k : ℕ) → sees records n k ≡ true → passes_at operations (changes y) k ≡ true
          → (is_seen_by records o k ≡ true) ⊎ Contains elements y) → Goal
      go None none sides known = elim (sides x) [
        | inl there ↦ absurd (not_there there)
        | inr side ↦ if_none (sym (listed_is x) ∙ side) (λ changed.
            let (changing, seen, passes) = changed_by visible x changed in
            let (sees_it, at) = label_passes records operations listed n x changing seen passes in
            elim (known x changing.number sees_it at) [
              | inl nothing ↦ false≢true nothing
              | inr there ↦ not_there there
            ])
      ]
      go (Some q) (less, same, (earlier, read)) sides known = elim (sides x) [
        | inl there ↦ absurd (not_there there)
        | inr side ↦ if_read q less same (λ k seen passes. elim (known x k seen passes) [
          | inl it ↦ it
          | inr there ↦ absurd (not_there there)
        ]) earlier
            (sym (listed_is x) ∙ side ∙ ap (λ o. is_among x (read_list o)) read) read
      ]

  checked : (x : ℕ) → Contains elements x ⊎ ¬ Contains elements x
  checked x = elim (cases_Bool (is_among x elements)) [
    | inl there ↦ inl ((among-exactly x elements).0 there)
    | inr not_there ↦ inr (λ there. false≢true (sym not_there ∙ (among-exactly x elements).1 there))
  ]

  met_at : (order : List ℕ) → MeetsAll order (conditions ++ added) → (x : ℕ) → Contains (elements_in visible) x
      → (condition : Condition) × Narrows records (element_condition visible list x) condition × Meets order condition
  met_at order meets x changed = elim (checked x) [
    | inl there ↦
        let (newest, of, among, possible) = all.all x there in
        let condition = narrow_element operations newest (is_listed x) x in
        (condition, narrows_at x newest of, meets condition (Contains-append_right conditions added condition among))
    | inr not_there ↦ unchanged x not_there
        ((condition : Condition) × Narrows records (element_condition visible list x) condition × Meets order condition)
        (λ q less same no_new earlier same_side read.
        met_before records operations listed q n less below same x no_new list earlier same_side read conditions kept order
        (λ condition among. meets condition (Contains-append_left conditions added condition among)) changed)
        (λ unlisted none. absurd (none changed))
  ]

  possible_at : (x : ℕ) → IsPossibleElement visible list x
  possible_at x = elim (checked x) [
    | inl there ↦
        let (newest, of, among, possible) = all.all x there in
        possible_element records operations listed n found are.newest bound few x newest of list (is_listed x)
        (sym (listed_is x)) possible
    | inr not_there ↦ unchanged x not_there (IsPossibleElement visible list x)
        (λ q less same no_new earlier same_side read.
        still_possible records operations listed q n less below same x no_new list earlier same_side read conditions kept)
        (λ unlisted none. (
          λ there. absurd (false≢true (sym unlisted ∙ (among-exactly x list).1 there)),
          λ changed not_in_list. absurd (none changed),
        ))
  ]

  pub set_reads : AreReadConditions records n (op.LwwRead list) conditions added
  set_reads = record {
    required =
        λ condition among.
        let (x, (newest, of, same)) = all.each condition among in
        subst (IsRequired records) same (required_at x newest of);
    met =
        λ order meets full there.
        let (x, changed, same) = from_where (element_condition visible list) (elements_in visible) full there in
        subst (λ c. (condition : Condition) × Narrows records c condition × Meets order condition) same
        (met_at order meets x changed);
    possible = (λ x there. (possible_at x).0 there, λ x changed not_there. (possible_at x).1 changed not_there);
  }
