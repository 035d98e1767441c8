-- Lemmas on the lists that an LWW set's next read can return: in each order that of the elements whose last visible
-- update is an addition.
use Rattle.std.proofs.Common.{◌≡◌, ℕ, ◌+◌, ◌<◌, Bool, true, false, List, [], ◌∷◌, ◌++◌, Option, Some, None, refl, sym, ap, ◌∙◌, subst, inl, inr, arith, filter}
use Rattle.std.specs.Prelude.{◌⊎◌, Contains}
use Rattle.std.proofs.lemmas.Bool.{cases_Bool, false≢true}
use Rattle.std.proofs.lemmas.List.Elements.{Contains-append_right}
use Rattle.ra_labels.specs.declared.kind.Kind.TheVariants.{LwwSet}
use Rattle.ra_labels.specs.declared.operation.Op.{Op}
use Rattle.ra_labels.specs.declared.operation.Op.TheVariants as op
use Rattle.ra_labels.specs.declared.label.Label.{Label}
use Rattle.ra_labels.specs.HistorySoFar.{next_operation, label_of}
use Rattle.ra_labels.specs.Lists.{is_among}
use Rattle.ra_labels.specs.Places.{issuer_of}
use Rattle.ra_labels.specs.Records.{Records, label_count, labels_of}
use Rattle.ra_labels.specs.Visibility.{is_update, sees}
use Rattle.ra_labels.proofs.InLists.{among-exactly}
use Rattle.ra_labels.proofs.Members.{none_there, kept-there, there-kept, from_where, reached}
use Rattle.ra_theorems.proofs.TheoremIndex.{linearization_by_visibility, sees_earlier_updates-earlier, label_at_each_number-found}
use Rattle.ra_precedence.specs.Conditions.{Condition, Meets, MeetsAll, HasEachBelow}
use Rattle.ra_precedence.specs.Lasts.{IsOrderFor, IsLastOf}
use Rattle.ra_some_order.specs.VisibleUpdates.{visible_labels, elements_in}
use Rattle.ra_some_order.specs.UpdateConditions.{element_condition, read_conditions}
use Rattle.ra_some_order.specs.PlainConditions.{IsPossibleRead}
use Rattle.ra_some_order.specs.LabelOrders.{IsOrderOfLabels, Narrows}
use Rattle.ra_some_order.specs.SomeOrder.{EachLabelIsOfKind}
use Rattle.ra_some_order.proofs.StuckSets.{none_or_last, HasLastMember}
use Rattle.ra_some_order.proofs.MetConditions.{there_visible}
use Rattle.ra_some_order.proofs.TheoremIndex.{linearization_meets_conditions-plain, narrow_condition_requires_as_much}
use Rattle.ra_visibility.specs.Newest.{AreNewest}
use Rattle.ra_any_order.specs.declared.seen_updates.SeenUpdates.{SeenUpdates}
use Rattle.ra_any_order.specs.Changes.{changes, AreNewestChanges}
use Rattle.ra_any_order.specs.Elements.{leads, narrow_element, is_possible_element, AreNewestOf}
use Rattle.ra_any_order.specs.NextRead.{with_read}
use Rattle.ra_any_order.specs.PossibleElements.{IsPossibleList}
use Rattle.ra_any_order.specs.Previous.{IsLastBelow}
use Rattle.ra_any_order.specs.Reading.{passes_at, order_condition}
use Rattle.ra_any_order.specs.Requirements.{Answer, IsPossibleElement, AreConditionsBelow, AreReadConditions}
use Rattle.ra_any_order.specs.Standings.{AreSeenUpdates}
use Rattle.ra_any_order.proofs.ElementLasts.{AreListedLast, sides_at, met_by_last, last_by_met, possible_by_member, newest_exist, same_last_of}
use Rattle.ra_any_order.proofs.ElementReads.{adds_itself, changed_by, change_there, full_element, full_is, element_narrows, possible_element}
use Rattle.ra_any_order.proofs.LastMembers.{is_last, find_last, same_last}
use Rattle.ra_any_order.proofs.NarrowSides.{AreListed, seen_label, test_at}
use Rattle.ra_any_order.proofs.NextReads.{listed_now, same_test, label_here, in_turn, explained, explaining}
use Rattle.ra_any_order.proofs.PossibleValues.{no_members}

-- a condition names fewer labels than itself
itself : (records : Records) (full : Condition) → Narrows records full full
itself records full = record {
  before = λ b there. there;
  after = λ c there. there;
  kept = λ k side. (k, side, omega arith, refl);
}

module _ (before : Records) (operations : List Op) (listed : AreListed before operations)
    (of_kind : EachLabelIsOfKind LwwSet before) (by : ℕ) (newest_seen : List ℕ) (previous : Option ℕ)
    (conditions : List Condition) (kept : AreConditionsBelow before (label_count before) conditions)
    (are : (read : Op) → is_update read ≡ false
    → AreNewest (with_read before by read) (label_count before) newest_seen)
    (last : (read : Op) → is_update read ≡ false → IsLastBelow (with_read before by read) (label_count before)
    (issuer_of (with_read before by read) (label_count before)) previous) (seen : SeenUpdates)
    (seen_are : (list : List ℕ)
    → AreSeenUpdates (with_read before by (op.LwwRead list)) operations (label_count before) seen) where
  abbrev n : ℕ
  n = label_count before

  abbrev asked : List Condition
  asked = conditions ++ order_condition newest_seen previous n ∷ []

  abbrev now : List ℕ → Records
  now list = with_read before by (op.LwwRead list)

  abbrev operations_now : List ℕ → List Op
  operations_now list = operations ++ op.LwwRead list ∷ []

  abbrev AreOf : ℕ → List ℕ → Type 0
  AreOf x newest = AreNewestOf seen.newest x seen.replicas newest

  -- whether an update adds the element, or removes it
  abbrev Leads : Bool → ℕ → ℕ → Type 0
  Leads side x w = passes_at operations (leads side x) w ≡ true

  seen_low : (list : List ℕ) (k : ℕ) → sees (now list) n k ≡ true → k < n
  seen_low list k seen_it = sees_earlier_updates-earlier (now list) n k seen_it

  module _ (list : List ℕ) where
    abbrev visible : List Label
    visible = visible_labels (now list) n

    listed_with : AreListed (now list) (operations_now list)
    listed_with = listed_now before operations listed by (op.LwwRead list)

    test_now : (passes : Op → Bool) (k : ℕ) → k < n
        → passes_at (operations_now list) passes k ≡ passes_at operations passes k
    test_now = same_test before operations listed by (op.LwwRead list)

    changes_now : AreNewestChanges (now list) (operations_now list) (Some n) seen.newest
    changes_now = record {
      seen =
          λ x replica m at.
          let (seen_it, issued, passes) = (seen_are list).newest.seen x replica m at in
          (seen_it, issued, test_now (changes x) m (seen_low list m seen_it) ∙ passes);
      latest =
          λ x k seen_it passes. (seen_are list).newest.latest x k seen_it
          (sym (test_now (changes x) k (seen_low list k seen_it)) ∙ passes);
    }

    -- the conditions of the read's answer
    abbrev reads : List Condition
    reads = read_conditions visible (op.LwwRead list)

    abbrev label : Label
    label = label_of before (next_operation by (op.LwwRead list) None)

    label_read : Contains (labels_of (now list)) label
    label_read = label_here before operations listed LwwSet refl of_kind by newest_seen previous conditions kept are last
        (op.LwwRead list) refl refl

    are_reads : IsPossibleRead visible (op.LwwRead list)
        → AreReadConditions (now list) n (op.LwwRead list) conditions reads
    are_reads possible = record {
      required =
          λ condition among b first. (
            n,
            Answer label condition (label_at_each_number-found (now list) label label_read) among
                (itself (now list) condition),
          );
      met =
          λ order meets full among.
          (full, itself (now list) full, meets full (Contains-append_right conditions reads full among));
      possible = possible;
    }

    asked_of : (x : ℕ) → Contains (elements_in visible) x → Contains reads (element_condition visible list x)
    asked_of x changed = reached (element_condition visible list) (elements_in visible) x changed

    -- ---- one element
    module _ (x : ℕ) (newest : List ℕ) (of : AreOf x newest) where
      member_seen : (w : ℕ) → Contains newest w
          → (sees (now list) n w ≡ true) × (passes_at operations (changes x) w ≡ true)
      member_seen w among =
          let (replica, low, at) = of.each w among in
          let (seen_it, issued, passes) = (seen_are list).newest.seen x replica w at in
          (seen_it, passes)

      member_low : (w : ℕ) → Contains newest w → w < n
      member_low w among = seen_low list w (member_seen w among).0

      abbrev narrow : Bool → Condition
      narrow side = narrow_element (operations_now list) newest side x

      narrows : (side : Bool) → Narrows (now list) (full_element visible side x) (narrow side)
      narrows side = element_narrows (now list) (operations_now list) listed_with n seen.newest changes_now seen.replicas
          (seen_are list).issuers x newest of side

      -- the condition of the element is met exactly if the narrow one is
      met_exactly : (order : List ℕ) → IsOrderOfLabels (now list) order → Contains (elements_in visible) x
          → (Meets order (element_condition visible list x) → Meets order (narrow (is_among x list)))
          × (Meets order (narrow (is_among x list)) → Meets order (element_condition visible list x))
      met_exactly order is changed =
          let exactly = narrow_condition_requires_as_much (now list) order is n (op.LwwRead list)
          (element_condition visible list x) (narrow (is_among x list)) (asked_of x changed)
          (subst (λ full. Narrows (now list) full (narrow (is_among x list)))
          (sym (full_is visible list x (is_among x list) refl)) (narrows (is_among x list))) in
          (exactly.0, exactly.1)

      member_changes : (w : ℕ) → Contains newest w → Contains (elements_in visible) x
      member_changes w among =
          let (seen_it, passes) = member_seen w among in
          let (it, there, numbered, updates) = seen_label (now list) (operations_now list) listed_with n newest
          (λ m its. (member_seen m its).0) w seen_it in
          change_there visible x it there
          (sym (test_at (now list) (operations_now list) listed_with n newest (λ m its. (member_seen m its).0) (changes x) it
          (there_visible (now list) n it there).0)
          ∙ ap (passes_at (operations_now list) (changes x)) numbered
          ∙ test_now (changes x) w (seen_low list w seen_it) ∙ passes)

      changed_member : (it : Label) → Contains visible it → changes x it.op ≡ true → (m : ℕ) × Contains newest m
      changed_member it there is =
          let (among, seen_it) = there_visible (now list) n it there in
          let passes = test_at (now list) (operations_now list) listed_with n newest (λ m its. (member_seen m its).0)
          (changes x) it among ∙ is in
          let (m, at, less) = changes_now.latest x it.number seen_it passes in
          (m, of.all (issuer_of (now list) it.number) m ((seen_are list).issuers it.number seen_it) at)

    element_there : (x : ℕ) (it : Label) → Contains visible it → changes x it.op ≡ true → Contains seen.elements.items x
    element_there x it there is =
        let (among, seen_it) = there_visible (now list) n it there in
        (seen_are list).elements x it.number seen_it
        (sym (test_now (changes x) it.number (seen_low list it.number seen_it))
        ∙ test_at (now list) (operations_now list) listed_with n [] (λ m none. absurd (none_there m none)) (changes x) it
        among ∙ is)

  pub in_order : (x : ℕ) (newest : List ℕ) → AreOf x newest → (order : List ℕ) → HasEachBelow (n + 1) order → (m : ℕ)
      → Contains newest m → Contains order m
  in_order x newest of order each m among =
      (each.all m).0 (let low = member_low [] x newest of m among in omega (arith, low))

  abbrev updates_of : ℕ → List ℕ
  updates_of x = (newest_exist seen.newest x seen.replicas).0

  are_of : (x : ℕ) → AreOf x (updates_of x)
  are_of x = (newest_exist seen.newest x seen.replicas).1

  -- ---- from an order to a list
  module _ (order : List ℕ) (each : HasEachBelow (n + 1) order) (meets : MeetsAll order asked) where
    abbrev Place : ℕ → Type 0
    Place x = ((b : ℕ) → Contains order b → ¬ Contains (updates_of x) b) ⊎ HasLastMember (updates_of x) order

    abbrev place : (x : ℕ) → Place x
    place x = none_or_last (updates_of x) order

    abbrev added_at : (x : ℕ) → Place x → Bool
    added_at x (inl none) = false
    added_at x (inr found) = passes_at operations (leads true x) found.last

    abbrev is_added : ℕ → Bool
    is_added x = added_at x (place x)

    -- the elements whose last visible update is an addition
    abbrev list_of_order : List ℕ
    list_of_order = filter is_added seen.elements.items

    ordered : (x : ℕ) (m : ℕ) → Contains (updates_of x) m → Contains order m
    ordered x = in_order x (updates_of x) (are_of x) order each

    added_as : (x w : ℕ) → IsLastOf order (updates_of x) w → is_added x ≡ passes_at operations (leads true x) w
    added_as x w is = go (place x)
      where
        go : (p : Place x) → added_at x p ≡ passes_at operations (leads true x) w
        go (inl none) = absurd (none w (ordered x w is.member) is.member)
        go (inr found) =
            ap (passes_at operations (leads true x)) (same_last order (updates_of x) each.once (ordered x) found w is)

    element_of : (x w : ℕ) → Contains (updates_of x) w → Contains seen.elements.items x
    element_of x w among =
        let (seen_it, passes) = member_seen [] x (updates_of x) (are_of x) w among in
        (seen_are []).elements x w seen_it passes

    -- the last update leads to whether the element is in the list
    side_of_last : (x w : ℕ) → IsLastOf order (updates_of x) w → Leads (is_among x list_of_order) x w
    side_of_last x w is = elim (cases_Bool (passes_at operations (leads true x) w)) [
      | inl adds ↦
          let there = kept-there is_added seen.elements.items x (element_of x w is.member) (added_as x w is ∙ adds) in
          subst (λ side. Leads side x w) (sym ((among-exactly x list_of_order).1 there)) adds
      | inr other ↦ elim (cases_Bool (is_among x list_of_order)) [
        | inl there ↦
            absurd (false≢true (sym other ∙ sym (added_as x w is)
            ∙ (there-kept is_added seen.elements.items x ((among-exactly x list_of_order).0 there)).1))
        | inr not_there ↦
            subst (λ side. Leads side x w) (sym not_there)
            (elim (sides_at operations x false w (member_seen [] x (updates_of x) (are_of x) w is.member).1) [
              | inl adds ↦ absurd (false≢true (sym other ∙ adds))
              | inr removes_it ↦ removes_it
            ])
      ]
    ]

    abbrev its : List ℕ
    its = list_of_order

    leads_now : (x w : ℕ) → IsLastOf order (updates_of x) w
        → passes_at (operations_now its) (leads (is_among x its) x) w ≡ true
    leads_now x w is =
        test_now its (leads (is_among x its) x) w (member_low its x (updates_of x) (are_of x) w is.member)
        ∙ side_of_last x w is

    possible_at : (x : ℕ) → is_possible_element (narrow its x (updates_of x) (are_of x) (is_among x its)) (is_among x its) ≡ true
    possible_at x = go (place x) refl
      where
        go : (p : Place x) → place x ≡ p
            → is_possible_element (narrow its x (updates_of x) (are_of x) (is_among x its)) (is_among x its) ≡ true
        go (inr found) here =
            let is = is_last order (updates_of x) each.once (ordered x) found in
            possible_by_member (operations_now its) x (updates_of x) (is_among x its) found.last found.is
            (leads_now x found.last is)
        go (inl none) here =
            let empty = no_members (updates_of x) (λ m among. none m (ordered x m among) among) in
            subst (λ xs. is_possible_element (narrow_element (operations_now its) xs (is_among x its) x) (is_among x its) ≡ true)
            (sym empty) (elim (cases_Bool (is_among x its)) [
              | inl there ↦ absurd (false≢true (sym (ap (added_at x) here)
                  ∙ (there-kept is_added seen.elements.items x ((among-exactly x its).0 there)).1))
              | inr not_there ↦
                  subst (λ side. is_possible_element (narrow_element (operations_now its) [] side x) side ≡ true)
                  (sym not_there) refl
            ])

    possible_read : IsPossibleRead (visible its) (op.LwwRead its)
    possible_read = ((λ x there. (at x).0 there), (λ x changed not_there. (at x).1 changed not_there))
      where
        at : (x : ℕ) → IsPossibleElement (visible its) its x
        at x = possible_element (now its) (operations_now its) (listed_with its) n seen.newest (changes_now its)
            seen.replicas (seen_are its).issuers x (updates_of x) (are_of x) its (is_among x its) refl (possible_at x)

    order_is : IsOrderOfLabels (now its) order
    order_is = in_turn before operations listed LwwSet refl of_kind by newest_seen previous conditions kept are last
        (op.LwwRead its) refl refl order each meets

    met_reads : MeetsAll order (reads its)
    met_reads full among =
        let (x, changed, same) = from_where (element_condition (visible its) its) (elements_in (visible its)) full among in
        let (it, there, is) = changed_by (visible its) x changed in
        let (m, member) = changed_member its x (updates_of x) (are_of x) it there is in
        let found = find_last order (updates_of x) each.once (ordered x) m member in
        let its_last = is_last order (updates_of x) each.once (ordered x) found in
        subst (Meets order) same
        ((met_exactly its x (updates_of x) (are_of x) order order_is changed).1
        (met_by_last (operations_now its) x (updates_of x) (is_among x its) order found.last its_last
        (leads_now x found.last its_last)))

    pub list_from_order : (list : List ℕ) × IsPossibleList before by list × AreListedLast operations seen order list
    list_from_order = (
      its,
      explained before operations listed LwwSet refl of_kind by newest_seen previous conditions kept are last
          (op.LwwRead its) refl refl (reads its) (are_reads its possible_read) order each meets met_reads,
      λ x newest of w is. side_of_last x w
          (same_last_of seen.newest x seen.replicas newest (updates_of x) of (are_of x) order w is),
    )

  -- ---- from a list to an order
  module _ (list : List ℕ) (is_possible : IsPossibleList before by list) where
    possible_then : IsPossibleRead (visible list) (op.LwwRead list)
    possible_then =
        linearization_meets_conditions-plain LwwSet (now list) is_possible.0 refl
        (linearization_by_visibility LwwSet (now list) is_possible.0 is_possible.1) (label list) (label_read list)

    explaining_order : (order : List ℕ) × IsOrderFor (n + 1) asked order × MeetsAll order (reads list)
    explaining_order = explaining before operations listed LwwSet refl of_kind by newest_seen previous conditions kept are
        last (op.LwwRead list) refl refl (reads list) (are_reads list possible_then) is_possible

    pub order_from_list : (order : List ℕ) × IsOrderFor (n + 1) asked order × AreListedLast operations seen order list
    order_from_list =
        let (order, is_for, met_reads) = explaining_order in (
          order,
          is_for,
          λ x newest of w is.
              let order_is = in_turn before operations listed LwwSet refl of_kind by newest_seen previous conditions kept
              are last (op.LwwRead list) refl refl order is_for.0 is_for.1 in
              let changed = member_changes list x newest of w is.member in
              let (seen_it, passes) = member_seen list x newest of w is.member in
              let low = seen_low list w seen_it in
              let met = (met_exactly list x newest of order order_is changed).0
              (met_reads (element_condition (visible list) list x) (asked_of list x changed)) in
              sym (test_now list (leads (is_among x list) x) w low)
              ∙ last_by_met (operations_now list) x newest (is_among x list) order is_for.0.once
              (in_order x newest of order is_for.0) w is (test_now list (changes x) w low ∙ passes) met,
        )

    -- a listed element was added
    pub listed_update : (x : ℕ) → Contains list x → Contains seen.elements.items x
        × ((newest : List ℕ) → AreOf x newest → (m : ℕ) × Contains newest m)
    listed_update x there =
        let (it, seen_it, is) = possible_then.0 x there in
        let changes_it = adds_itself x it.op is in
        (element_there list x it seen_it changes_it, λ newest of. changed_member list x newest of it seen_it changes_it)
