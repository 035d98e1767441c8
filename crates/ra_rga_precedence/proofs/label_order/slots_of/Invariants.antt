use Rattle.std.proofs.Common.{◌≡◌, ◌≤◌, ◌+◌, ℕ, length}
use Rattle.ra_labels.specs.HistorySoFar.{History}
use Rattle.ra_labels.specs.Records.{label_count}
use Rattle.ra_visibility.specs.Tracked.{replicas_in}
use Rattle.ra_some_order.specs.Covering.{ExtendsVisibility}
use Rattle.ra_rga_precedence.specs.Ranks.{AreRanks}
use Rattle.ra_rga_precedence.specs.Situation.{operations_in, IsHistoryOf}
use Rattle.ra_rga_precedence.proofs.LabelSlots.{labels_at, HasEachFrom, AreSlotsFrom}
use Rattle.ra_rga_precedence.proofs.label_order.slots_of.Given as goal

-- the labels from this number on have slots
abbrev pub invariant-loop-done : goal.invariant-loop-done
invariant-loop-done l = record {
  each : (from : ℕ) → from + l.done ≡ l.count → HasEachFrom from l.count (labels_at l.slots.items);
  are : (past : History) → IsHistoryOf l.tracker.now (operations_in l.operations) past
      → (extended : ExtendsVisibility past.records l.order) → (ranked : AreRanks (label_count past.records) l.order l.ranks.items)
      → (from : ℕ) → from + l.done ≡ l.count
      → AreSlotsFrom past.records l.order l.ranks.items ranked extended from l.next.items l.slots.items;
  wide : length l.next.items ≡ replicas_in l.tracker.now;
  within : l.done ≤ l.count;
}
