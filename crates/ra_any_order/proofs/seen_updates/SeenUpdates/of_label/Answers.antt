use Rattle.std.proofs.Common.{◌≡◌, ◌<◌, ℕ, List, eqb, get_or, true, inl, inr, sym, ap, subst, ◌∙◌, add-one, arith}
use Rattle.std.specs.Prelude.{Contains}
use Rattle.std.specs.List.{dedup}
use Rattle.std.specs.List.Sorted.{IsSorted}
use Rattle.std.specs.Ordering.{nat_cmp}
use Rattle.std.proofs.lemmas.Bool.{false≢true}
use Rattle.std.proofs.lemmas.List.Filters.{dedup_is}
use Rattle.std.proofs.lemmas.List.Kept.{Contains-dedup_nat}
use Rattle.std.proofs.lemmas.List.Sorted.{Contains-permutation}
use Rattle.std.proofs.lemmas.Map.Keys.{IsStrictlyIncreasing-dedup}
use Rattle.ra_labels.specs.Lists.{rises}
use Rattle.ra_labels.specs.Places.{issuer_of}
use Rattle.ra_labels.proofs.RisingLists.{rises-steps}
use Rattle.ra_theorems.proofs.TheoremIndex.{sees_earlier_updates-updates, delivered_are_updates-there}
use Rattle.ra_visibility.specs.Tracked.{labels_in}
use Rattle.ra_any_order.specs.Changes.{ArePrevious, is_seen_by}
use Rattle.ra_any_order.specs.Situation.{operations_in}
use Rattle.ra_any_order.proofs.ReadOutcomes.{new_view_of}
use Rattle.ra_any_order.proofs.seen_updates.SeenUpdates.of_label.Goals as goal

-- sorted elements of which each is kept once rise
once_rises : (xs : List ℕ) → IsSorted nat_cmp xs → rises (dedup eqb xs) ≡ true
once_rises xs sorted = rises-steps (dedup eqb xs) (λ k short.
    let next = IsStrictlyIncreasing-dedup xs sorted k (omega arith) in
    subst (λ j. get_or (dedup eqb xs) k 0 < get_or (dedup eqb xs) j 0) (add-one k) next)

pub returns-clause-rising : goal.returns-clause-rising
returns-clause-rising c =
    let sorted = c.sort_unstable.new.self.items in
    let once : c.dedup.new.self.items ≡ dedup eqb sorted = dedup_is eqb sorted c.dedup.new.self.items c.dedup.ensures.filtered in
    ap rises once ∙ once_rises sorted c.sort_unstable.ensures.sorted

pub returns-clause-seen : goal.returns-clause-seen
returns-clause-seen c = λ past stands.
    let n = c.args.label in
    let ops = operations_in c.args.operations.now in
    let count = labels_in c.args.tracker.now.now in
    let view = c.new-view.result in
    let sorted = c.sort_unstable.new.self.items in
    let changed = c.in_ok-elements.elements.items in
    let once : c.dedup.new.self.items ≡ dedup eqb sorted = dedup_is eqb sorted c.dedup.new.self.items c.dedup.ensures.filtered in
    let previous = subst (ArePrevious past.records count) (sym c.deref.ensures.value)
    (c.in_ok-previous.ensures.each past stands.visibility) in
    let found = c.in_ok-elements.ensures.found past stands previous
    (new_view_of past.records ops (issuer_of past.records n) n view c.new-view.ensures) in
    record {
      newest = found.newest;
      elements =
          λ x k seen passes. elim (found.listed x k seen passes) [
            | inl known ↦ absurd (false≢true (subst (λ o. is_seen_by past.records o k ≡ true) c.new-view.ensures.0 known))
            | inr there ↦
                subst (λ xs. Contains xs x) (sym once)
                (Contains-dedup_nat sorted x (Contains-permutation changed sorted x c.sort_unstable.ensures.permutation there))
          ];
      issuers =
          λ k seen.
          let there = delivered_are_updates-there past.records k (sees_earlier_updates-updates past.records n k seen) in
          c.replicas.ensures.issuers past stands.visibility k
          (subst (λ j. k < j) (sym stands.visibility.labels) there);
    }

pub returns-clause-below : goal.returns-clause-below
returns-clause-below c = c.in_ok-elements.ensures.below.newest
