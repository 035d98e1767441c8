use Rattle.std.proofs.Common.{◌≡◌, ◌<◌, List, Option, None, ℕ, true, false, length, get_or, refl, sym, ap, subst, ◌∙◌}
use Rattle.std.specs.Prelude.{Contains}
use Rattle.std.specs.Ordering.{nat_cmp}
use Rattle.std.specs.BTreeMap.{get}
use Rattle.ra_labels.specs.declared.operation.Op.{Op}
use Rattle.ra_visibility.specs.Seen.{Seen, count_in}
use Rattle.ra_visibility.specs.Tracked.{Tracked, labels_in}
use Rattle.ra_rga_precedence.specs.declared.view.View.{View}
use Rattle.ra_rga_precedence.specs.Situation.{operations_in}
use Rattle.ra_rga_precedence.specs.Marks.{IsListing, AreUnmarked}
use Rattle.ra_rga_precedence.specs.Neighbors.{AreNeighbors, AreEdges, IsUnderNext}
use Rattle.ra_rga_precedence.specs.Views.{IsView, IsBroughtUp}
use Rattle.ra_rga_precedence.specs.UpdateConditions.{AreBelow}
use Rattle.ra_rga_precedence.proofs.NeededLabels.{needed_below, shown_below}
use Rattle.ra_rga_precedence.proofs.ListedViews.{lists_shown, none_lacks, present_unlisted, none_unlisted, view_of_read}
use Rattle.ra_rga_precedence.proofs.reads.add_read.Goals as goal

-- the view is brought up if no label lacks what it needs
brought : (tracked : Tracked) (operations : List Op) (given needed : List (Option ℕ)) (seen : Seen) (view : View)
    (open_label : Option ℕ) → given ≡ needed → open_label ≡ None
    → IsBroughtUp tracked operations given seen view open_label
    → IsView tracked operations needed view × ((k : ℕ) → get_or view.taken.items k 0 ≡ count_in seen k)
brought tracked operations given needed seen view open_label same none up =
    subst (λ ns. IsBroughtUp tracked operations ns seen view None) same
    (subst (IsBroughtUp tracked operations given seen view) none up)

pub listed_labels-requires : goal.listed_labels-requires
listed_labels-requires c = λ x m is.
    let up = brought c.args.tracker.now.now (operations_in c.args.operations.now) c.as_slice-needed.result.now
    c.args.insertions.now.needed.items c.args.seen.now c.bring_up.new.self c.in_ok-label.field-0
    c.as_slice-needed.ensures.value c.in_default.is c.in_ok-label.ensures in
    subst (λ l. m < l) (sym up.0.has.long) (c.requires.insertions.inserters.found x m is).0

pub unmarked_label-requires : goal.unmarked_label-requires
unmarked_label-requires c = λ m there.
    let up = brought c.args.tracker.now.now (operations_in c.args.operations.now) c.as_slice-needed.result.now
    c.args.insertions.now.needed.items c.args.seen.now c.bring_up.new.self c.in_ok-label.field-0
    c.as_slice-needed.ensures.value c.in_default.is c.in_ok-label.ensures in
    subst (λ ms. m < length ms) (sym c.deref.ensures.value)
    (subst (λ l. m < l) (sym (c.listed_labels.ensures.len ∙ up.0.has.long))
    (up.0.has.only m (subst (λ xs. Contains xs m) c.deref-2.ensures.value there)).0)

pub returns-in-Some-unmarked_label-clause-checked : goal.returns-in-Some-unmarked_label-clause-checked
returns-in-Some-unmarked_label-clause-checked c =
    let tracked = c.args.tracker.now.now in
    let operations = operations_in c.args.operations.now in
    let inserter = get nat_cmp c.args.insertions.now.inserters in
    let needed = c.args.insertions.now.needed.items in
    let ranks = c.args.insertions.now.ranks.items in
    let seen = c.args.seen.now in
    let view = c.bring_up.new.self in
    let up = brought tracked operations c.as_slice-needed.result.now needed seen view c.in_ok-label.field-0
    c.as_slice-needed.ensures.value c.in_default.is c.in_ok-label.ensures in
    let list = c.args.list.now in
    let now = c.listed_labels.new.marks.items in
    let labels = c.in-Labels.labels.items in
    let (len, shown) = subst (IsListing inserter seen view.removed.items list now) c.in-Labels.is c.in_ok-labels.ensures.listing in
    let m = c.in-Some-unmarked_label.label in
    let (there, free) = c.in-Some-unmarked_label.ensures in
    let its = subst (λ xs. Contains xs m) c.deref-2.ensures.value there in (
      labels,
      (
        now,
        lists_shown tracked operations inserter needed ranks c.requires.insertions seen c.requires.rows view up.0 up.1 list
            labels now len shown,
        (up.0.has.only m its).0,
        present_unlisted tracked operations inserter needed ranks c.requires.insertions seen c.requires.rows view up.0 up.1
            list labels now len shown m its (ap (λ ms. get_or ms m false) (sym c.deref.ensures.value) ∙ free),
      ),
    )

pub add_neighbors-requires-clause-below : goal.add_neighbors-requires-clause-below
add_neighbors-requires-clause-below c =
    let inserter = get nat_cmp c.args.insertions.now.inserters in
    subst (λ (ls : List (Option ℕ)). AreBelow (length ls) ls) (sym c.as_slice-needed.ensures.value)
    (subst (λ k. AreBelow k c.args.insertions.now.needed.items) (sym c.requires.insertions.len)
    (needed_below (operations_in c.args.operations.now) (labels_in c.args.tracker.now.now) inserter
    c.args.insertions.now.needed.items c.requires.insertions.inserters c.requires.insertions.needs))

pub add_neighbors-requires-clause-labels : goal.add_neighbors-requires-clause-labels
add_neighbors-requires-clause-labels c = λ m there.
    let inserter = get nat_cmp c.args.insertions.now.inserters in
    let (len, shown) = subst (IsListing inserter c.args.seen.now c.bring_up.new.self.removed.items c.args.list.now
    c.listed_labels.new.marks.items) c.in-Labels.is c.in_ok-labels.ensures.listing in
    subst (λ k. m < k) (sym (ap length c.as_slice-needed.ensures.value ∙ c.requires.insertions.len))
    (shown_below (operations_in c.args.operations.now) (labels_in c.args.tracker.now.now) inserter
    c.requires.insertions.inserters c.args.seen.now c.bring_up.new.self.removed.items c.args.list.now
    c.in-Labels.labels.items c.listed_labels.new.marks.items shown m
    (subst (λ ls. Contains ls m) c.deref-3.ensures.value there))

pub returns-in-Some-2-clause-checked : goal.returns-in-Some-2-clause-checked
returns-in-Some-2-clause-checked c =
    let tracked = c.args.tracker.now.now in
    let operations = operations_in c.args.operations.now in
    let inserter = get nat_cmp c.args.insertions.now.inserters in
    let needed = c.args.insertions.now.needed.items in
    let ranks = c.args.insertions.now.ranks.items in
    let seen = c.args.seen.now in
    let view = c.bring_up.new.self in
    let up = brought tracked operations c.as_slice-needed.result.now needed seen view c.in_ok-label.field-0
    c.as_slice-needed.ensures.value c.in_default.is c.in_ok-label.ensures in
    let list = c.args.list.now in
    let now = c.listed_labels.new.marks.items in
    let labels = c.in-Labels.labels.items in
    let (len, shown) = subst (IsListing inserter seen view.removed.items list now) c.in-Labels.is c.in_ok-labels.ensures.listing in
    let place = c.in-Some-2.place in
    let under = subst (λ ns. IsUnderNext ns c.deref-3.result.now place) c.as_slice-needed.ensures.value
    (subst (AreNeighbors c.as_slice-needed.result.now c.deref-3.result.now c.args.conditions.now.items
    c.add_neighbors.new.conditions.items) c.in-Some-2.is c.in_ok-place.ensures) in (
      labels,
      (
        now,
        lists_shown tracked operations inserter needed ranks c.requires.insertions seen c.requires.rows view up.0 up.1 list
            labels now len shown,
        none_lacks tracked operations inserter needed ranks c.requires.insertions seen c.requires.rows view up.0 up.1,
        (place, subst (λ ls. IsUnderNext needed ls place) c.deref-3.ensures.value under, refl, refl),
      ),
    )

pub unmark-requires : goal.unmark-requires
unmark-requires c = λ m there.
    let inserter = get nat_cmp c.args.insertions.now.inserters in
    let up = brought c.args.tracker.now.now (operations_in c.args.operations.now) c.as_slice-needed.result.now
    c.args.insertions.now.needed.items c.args.seen.now c.bring_up.new.self c.in_ok-label.field-0
    c.as_slice-needed.ensures.value c.in_default.is c.in_ok-label.ensures in
    let (len, shown) = subst (IsListing inserter c.args.seen.now c.bring_up.new.self.removed.items c.args.list.now
    c.listed_labels.new.marks.items) c.in-Labels.is c.in_ok-labels.ensures.listing in
    subst (λ l. m < l) (sym (c.listed_labels.ensures.len ∙ up.0.has.long))
    (shown_below (operations_in c.args.operations.now) (labels_in c.args.tracker.now.now) inserter
    c.requires.insertions.inserters c.args.seen.now c.bring_up.new.self.removed.items c.args.list.now
    c.in-Labels.labels.items c.listed_labels.new.marks.items shown m
    (subst (λ ls. Contains ls m) c.deref-4.ensures.value there))

pub returns-clause-checked : goal.returns-clause-checked
returns-clause-checked c =
    let tracked = c.args.tracker.now.now in
    let operations = operations_in c.args.operations.now in
    let inserter = get nat_cmp c.args.insertions.now.inserters in
    let needed = c.args.insertions.now.needed.items in
    let ranks = c.args.insertions.now.ranks.items in
    let seen = c.args.seen.now in
    let view = c.bring_up.new.self in
    let up = brought tracked operations c.as_slice-needed.result.now needed seen view c.in_ok-label.field-0
    c.as_slice-needed.ensures.value c.in_default.is c.in_ok-label.ensures in
    let list = c.args.list.now in
    let now = c.listed_labels.new.marks.items in
    let labels = c.in-Labels.labels.items in
    let old = c.args.conditions.now.items in
    let new = c.add_neighbors.new.conditions.items in
    let (len, shown) = subst (IsListing inserter seen view.removed.items list now) c.in-Labels.is c.in_ok-labels.ensures.listing in
    let all : (m : ℕ) → Contains view.present.items m → get_or now m false ≡ true = λ m there.
    ap (λ ms. get_or ms m false) (sym c.deref.ensures.value)
    ∙ c.in_default-unmarked_label.ensures m (subst (λ xs. Contains xs m) (sym c.deref-2.ensures.value) there) in
    let edges = subst (λ ns. AreEdges ns c.deref-3.result.now old new (length c.deref-3.result.now))
    c.as_slice-needed.ensures.value
    (subst (AreNeighbors c.as_slice-needed.result.now c.deref-3.result.now old new) c.in_default-2.is
    c.in_ok-place.ensures) in (
      labels,
      (
        now,
        lists_shown tracked operations inserter needed ranks c.requires.insertions seen c.requires.rows view up.0 up.1 list
            labels now len shown,
        none_lacks tracked operations inserter needed ranks c.requires.insertions seen c.requires.rows view up.0 up.1,
        none_unlisted tracked operations inserter needed ranks c.requires.insertions seen c.requires.rows view up.0 up.1 list
            labels now len shown all,
        subst (λ ls. AreEdges needed ls old new (length ls)) c.deref-3.ensures.value edges,
      ),
    )

pub returns-clause-view : goal.returns-clause-view
returns-clause-view c = λ none.
    let tracked = c.args.tracker.now.now in
    let operations = operations_in c.args.operations.now in
    let inserter = get nat_cmp c.args.insertions.now.inserters in
    let needed = c.args.insertions.now.needed.items in
    let ranks = c.args.insertions.now.ranks.items in
    let seen = c.args.seen.now in
    let view = c.bring_up.new.self in
    let up = brought tracked operations c.as_slice-needed.result.now needed seen view c.in_ok-label.field-0
    c.as_slice-needed.ensures.value c.in_default.is c.in_ok-label.ensures in
    let list = c.args.list.now in
    let now = c.listed_labels.new.marks.items in
    let labels = c.in-Labels.labels.items in
    let (len, shown) = subst (IsListing inserter seen view.removed.items list now) c.in-Labels.is c.in_ok-labels.ensures.listing in
    let all : (m : ℕ) → Contains view.present.items m → get_or now m false ≡ true = λ m there.
    ap (λ ms. get_or ms m false) (sym c.deref.ensures.value)
    ∙ c.in_default-unmarked_label.ensures m (subst (λ xs. Contains xs m) (sym c.deref-2.ensures.value) there) in
    let unmarked = subst (λ ls. AreUnmarked now ls c.unmark.new.marks.items) c.deref-4.ensures.value c.unmark.ensures in
    let is = view_of_read tracked operations inserter needed ranks c.requires.insertions seen c.requires.rows view up.0
    up.1 list labels now len shown all
    (record { taken = view.taken; removed = c.unmark.new.marks; present = c.in-Labels.labels }) refl refl unmarked
    c.listed_labels.ensures.len in
    record { is = is; taken = up.1; listed = len }
