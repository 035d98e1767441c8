-- Lemmas on the answer about the elements of an LWW set's next read.
use Rattle.std.proofs.Common.{◌≡◌, ℕ, ◌+◌, Bool, true, false, List, ◌∷◌, ◌++◌, [], Option, None, refl, sym, ◌∙◌, inl, inr}
use Rattle.std.specs.Prelude.{◌⊎◌, Contains}
use Rattle.std.specs.BTreeSet.{BTreeSet, contains}
use Rattle.std.specs.Ordering.{nat_cmp}
use Rattle.std.proofs.lemmas.Bool.{false≢true}
use Rattle.ra_labels.specs.declared.kind.Kind.TheVariants.{LwwSet}
use Rattle.ra_labels.specs.declared.operation.Op.{Op}
use Rattle.ra_labels.specs.declared.operation.Op.TheVariants as op
use Rattle.ra_labels.specs.HistorySoFar.{History, history_with, operate, next_operation}
use Rattle.ra_labels.specs.Places.{issuer_of}
use Rattle.ra_labels.specs.Records.{Records, label_count}
use Rattle.ra_labels.specs.Visibility.{is_update}
use Rattle.ra_theorems.proofs.TheoremIndex.{delivered_are_updates-there}
use Rattle.ra_precedence.specs.Conditions.{Condition}
use Rattle.ra_precedence.specs.Lasts.{IsOrderFor}
use Rattle.ra_some_order.specs.SomeOrder.{SomeOrderExplains, EachLabelIsOfKind}
use Rattle.ra_visibility.specs.Newest.{AreNewest}
use Rattle.ra_visibility.specs.Tracked.{Tracked}
use Rattle.ra_any_order.specs.declared.next_elements.PossibleElements.{PossibleElements}
use Rattle.ra_any_order.specs.declared.next_elements.TheConstants.{MOST_ASKED}
use Rattle.ra_any_order.specs.declared.seen_updates.SeenUpdates.{SeenUpdates}
use Rattle.ra_any_order.specs.declared.standings.Standing.TheVariants.{Unasked}
use Rattle.ra_any_order.specs.Changes.{changes, AreChangesOf}
use Rattle.ra_any_order.specs.NextRead.{with_read, IsReadNext}
use Rattle.ra_any_order.specs.PossibleElements.{IsContested, AreAskedAbout, IsFoundOf, IsPossibleList}
use Rattle.ra_any_order.specs.Previous.{IsLastBelow}
use Rattle.ra_any_order.specs.Reading.{order_condition}
use Rattle.ra_any_order.specs.Requirements.{AreConditionsBelow}
use Rattle.ra_any_order.specs.Standings.{AreSeenUpdates, IsUncontested, HasBothSides, HasMany, AreStandings}
use Rattle.ra_any_order.proofs.ContestedElements.{contested_element, is_contested_now}
use Rattle.ra_any_order.proofs.ElementLasts.{AreListedLast}
use Rattle.ra_any_order.proofs.FoundChanges.{changing_update}
use Rattle.ra_any_order.proofs.FoundElements.{listed_in_each, undecided_in_some, others_in_none}
use Rattle.ra_any_order.proofs.ListOrders.{list_from_order, order_from_list, in_order, listed_update}
use Rattle.ra_any_order.proofs.NarrowSides.{AreListed}
use Rattle.ra_any_order.proofs.NextReads.{listed_now, same_test, some_asked}
use Rattle.ra_any_order.proofs.SortedElements.{contested_taken, key_in}

-- the operations of the labels before the read change elements as updates of the records with the read
pub changes_before : (tracked : Tracked) (operations : List Op) (past : History) (replica : ℕ)
    → AreListed past.records operations → IsReadNext tracked past replica → (read : Op) → is_update read ≡ false
    → AreChangesOf tracked operations (history_with past (operate (next_operation replica read None)))
changes_before tracked operations past replica listed next read no_update = record {
  visibility = next read no_update;
  updates =
      λ x m passes.
      let updates = changing_update past.records operations listed x m passes in
      let low = delivered_are_updates-there past.records m updates in
      changing_update (with_read past.records replica read) (operations ++ read ∷ [])
      (listed_now past.records operations listed replica read) x m
      (same_test past.records operations listed replica read (changes x) m low ∙ passes);
}

module _ (before : Records) (operations : List Op) (listed : AreListed before operations)
    (of_kind : EachLabelIsOfKind LwwSet before) (by : ℕ) (newest_seen : List ℕ) (previous : Option ℕ)
    (conditions : List Condition) (kept : AreConditionsBelow before (label_count before) conditions)
    (are : (read : Op) → is_update read ≡ false
    → AreNewest (with_read before by read) (label_count before) newest_seen)
    (last : (read : Op) → is_update read ≡ false → IsLastBelow (with_read before by read) (label_count before)
    (issuer_of (with_read before by read) (label_count before)) previous) (seen : SeenUpdates)
    (seen_are : (list : List ℕ)
    → AreSeenUpdates (with_read before by (op.LwwRead list)) operations (label_count before) seen)
    (explained : SomeOrderExplains LwwSet before) (chosen : BTreeSet ℕ)
    (full : (x : ℕ) → Contains seen.elements.items x
    → (contains nat_cmp chosen x ≡ true) ⊎ IsUncontested operations seen x ⊎ HasMany MOST_ASKED chosen)
    (both_sides : (x : ℕ) → contains nat_cmp chosen x ≡ true → HasBothSides operations seen x)
    (found : PossibleElements) (sorted : AreStandings operations (label_count before + 1)
    (conditions ++ order_condition newest_seen previous (label_count before) ∷ []) seen (contains nat_cmp chosen)
    seen.elements.items found) where
  abbrev asked : ℕ → Bool
  asked = contains nat_cmp chosen

  abbrev n : ℕ
  n = label_count before

  abbrev all : List Condition
  all = conditions ++ order_condition newest_seen previous n ∷ []

  some : (order : List ℕ) × IsOrderFor (n + 1) all order
  some = some_asked before operations listed LwwSet refl of_kind by newest_seen previous conditions kept are last explained

  from_order : (order : List ℕ) → IsOrderFor (n + 1) all order
      → (list : List ℕ) × IsPossibleList before by list × AreListedLast operations seen order list
  from_order order is_for = list_from_order before operations listed of_kind by newest_seen previous conditions kept are
      last seen seen_are order is_for.0 is_for.1

  contested_at : (x : ℕ) → HasBothSides operations seen x → IsContested before by x
  contested_at x (newest, of, both) = is_contested_now before operations listed by seen (seen_are []) x newest of both

  -- an element that is not asked about, although the solver can be asked about more, does not exist
  asked_about : (x : ℕ) → Contains found.unasked.items x → AreAskedAbout MOST_ASKED before by found.unasked.items
  asked_about x its =
      let (newest, of, (both, not_asked)) = sorted.each Unasked x its in
      elim (full x (contested_element operations seen n (with_read before by (op.LwwRead [])) (seen_are []) x newest of both)) [
        | inl is_asked ↦ absurd (false≢true (sym not_asked ∙ is_asked))
        | inr (inl uncontested) ↦ absurd (contested_taken operations seen x newest of both uncontested)
        | inr (inr (rising, enough)) ↦ (
          chosen.keys,
          rising,
          enough,
          λ y there. (
            contested_at y (both_sides y (key_in chosen y there)),
            λ not_there. false≢true (sym (sorted.each Unasked y not_there).2.1 ∙ key_in chosen y there),
          ),
        )
      ]

  pub found_of : IsFoundOf before by found
  found_of =
      let from_list = order_from_list before operations listed of_kind by newest_seen previous conditions kept are last
      seen seen_are in
      let there = in_order before operations listed of_kind by newest_seen previous conditions kept are last seen
      seen_are in
      let updated = listed_update before operations listed of_kind by newest_seen previous conditions kept are last seen
      seen_are in
      record {
        some = let its = from_order some.0 some.1 in (its.0, its.1);
        listed = listed_in_each before by (n + 1) operations all seen from_order from_list there updated asked found sorted;
        undecided =
            undecided_in_some before by (n + 1) operations all seen from_order from_list there updated asked found sorted
            (some.0, some.1);
        others = others_in_none before by (n + 1) operations all seen from_order from_list there updated asked found sorted;
        contested =
            λ x its. let (newest, of, both) = sorted.each Unasked x its in contested_at x (newest, of, both.0);
        full = asked_about;
      }

-- the first elements are asked about
pub first_asked : (operations : List Op) (count : ℕ) (conditions : List Condition) (seen : SeenUpdates)
    (asked : BTreeSet ℕ) (elements first : List ℕ) (found : PossibleElements)
    → AreStandings operations count conditions seen (contains nat_cmp asked) elements found
    → ((x : ℕ) → Contains first x → (contains nat_cmp asked x ≡ true) ⊎ IsUncontested operations seen x)
    → (x : ℕ) → Contains first x → ¬ Contains found.unasked.items x
first_asked operations count conditions seen asked elements first found sorted chosen x there its =
    let (newest, of, (both, not_asked)) = sorted.each Unasked x its in
    elim (chosen x there) [
      | inl is_asked ↦ false≢true (sym not_asked ∙ is_asked)
      | inr uncontested ↦ contested_taken operations seen x newest of both uncontested
    ]
