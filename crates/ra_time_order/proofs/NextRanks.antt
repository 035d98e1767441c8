-- Lemmas on the next label of an order that keeps ranks alone.
use Rattle.std.proofs.Common.{◌≡◌, ℕ, Bool, true, List, length, Option, Some, None, refl, sym, ap, ◌∙◌, subst}
use Rattle.std.specs.Prelude.{not, unwrap_or}
use Rattle.std.specs.List.{insert}
use Rattle.std.specs.List.Sorted.{IsPartitionedBy}
use Rattle.std.specs.Ordering.{is_lt}
use Rattle.std.proofs.lemmas.Bool.{not_from_false}
use Rattle.std.proofs.lemmas.List.{length-map}
use Rattle.std.proofs.lemmas.List.Sorted.{length_permutation}
use Rattle.ra_labels.specs.declared.label.Stamp.{Stamp}
use Rattle.ra_labels.specs.declared.label.Label.{Label}
use Rattle.ra_labels.specs.NamedOrder.{stamp_cmp, named_labels}
use Rattle.ra_labels.specs.Records.{labels_of}
use Rattle.ra_labels.specs.HistorySoFar.{History, NextOperation}
use Rattle.ra_labels.proofs.Counted.{labels_counted}
use Rattle.ra_theorems.proofs.TheoremIndex.{named_labels_sorted-same}
use Rattle.ra_visibility.specs.declared.order.Place.{Place}
use Rattle.ra_visibility.specs.Seen.{Seen, count_in}
use Rattle.ra_visibility.specs.Order.{ComesNext, IsPlaceOf}
use Rattle.ra_time_order.specs.declared.entry.Entry.{Entry}
use Rattle.ra_time_order.specs.Positions.{not_above, IsPositionOf, IsPastAll}
use Rattle.ra_time_order.specs.RunningMaxima.{RunningMaxima}
use Rattle.ra_time_order.specs.Sorted.{Sorted}
use Rattle.ra_time_order.specs.Stamps.{greatest_in}
use Rattle.ra_time_order.specs.Standing.{TimeOrder, time_order_of, entry_of, IsTimeOrderOf}
use Rattle.ra_time_order.proofs.Ranks.{at_most_itself, not_below}
use Rattle.ra_time_order.proofs.Places.{entries_same, place_found, place_past_all, splits}
use Rattle.ra_time_order.proofs.SortedRanks.{position_there}

module _ (sorted : Sorted) (replicas : RunningMaxima) (order : TimeOrder) (view : time_order_of sorted replicas ≡ order)
    (label : Label) (seen : Seen) (found rank : Stamp)
    (found_is : found ≡ greatest_in replicas.stamps (count_in seen) (length replicas.stamps))
    (rank_made : rank ≡ unwrap_or label.stamp found)
    (past : History) (next : NextOperation)
    (stands : IsTimeOrderOf order past) (comes : ComesNext past next label seen) where
  -- whether the label fits at its position
  pub fits_by_rank : (fits : Bool) → fits ≡ not (is_lt (stamp_cmp rank found))
      → (place : Place) × IsPlaceOf past.kind past.records next place × (place.fits ≡ fits)
  fits_by_rank fits is =
      let split = splits sorted replicas order view label seen found rank found_is rank_made past next stands comes in
      let there = position_there rank sorted.entries split in (
        record { at = there.0; fits = fits },
        place_found sorted replicas order view label seen found rank found_is rank_made past next stands comes there.0
            fits (λ _. there.1) is,
        refl,
      )

  -- the label's number is the number of labels before it
  pub number_is : length sorted.entries ≡ label.number
  number_is =
      let named = named_labels past.kind past.records in
      ap (λ (es : List Entry). length es)
      (entries_same sorted replicas order view label seen found rank found_is rank_made past next stands comes
      ∙ stands.entries)
      ∙ length-map named (entry_of past.kind past.records)
      ∙ length_permutation (labels_of past.records) named (named_labels_sorted-same past.kind past.records)
      ∙ labels_counted past.records
      ∙ sym (ap (λ (l : Label). l.number) comes.becomes)

  -- the labels with the label, by its number
  pub inserted_by_number : (made : Sorted) → (IsPartitionedBy (not_above rank) sorted.entries
      → (p : ℕ) × IsPositionOf rank sorted.entries p × (made.entries
      ≡ insert sorted.entries p (record { rank = rank; label = length sorted.entries })))
      → IsPartitionedBy (not_above rank) sorted.entries
      → (p : ℕ) × IsPositionOf rank sorted.entries p × (made.entries
      ≡ insert sorted.entries p (record { rank = rank; label = label.number }))
  inserted_by_number made inserted split =
      let there = inserted split in (
        there.0,
        there.1,
        there.2 ∙ ap (λ n. insert sorted.entries there.0 (record { rank = rank; label = n })) number_is,
      )

-- a label without a stamp of its own fits
pub fits_without_stamp : (order : TimeOrder) (label : Label) (seen : Seen) → label.stamp ≡ None
    → (past : History) (next : NextOperation) → IsTimeOrderOf order past → ComesNext past next label seen
    → (place : Place) × IsPlaceOf past.kind past.records next place × (place.fits ≡ true)
fits_without_stamp order label seen none past next stands comes =
    let sorted : Sorted = record { entries = order.entries; room = 0 } in
    let replicas : RunningMaxima = record { stamps = order.stamps; has_room = true } in
    let stands_too : IsTimeOrderOf (time_order_of sorted replicas) past = record {
      sorts = stands.sorts;
      entries = stands.entries;
      stamps = stands.stamps;
      stamped = stands.stamped;
    } in
    let greatest = greatest_in order.stamps (count_in seen) (length order.stamps) in
    fits_by_rank sorted replicas (time_order_of sorted replicas) refl label seen greatest greatest refl
    (sym (ap (λ (own : Option Stamp). unwrap_or own greatest) none)) past next stands_too comes true
    (sym (not_from_false (is_lt (stamp_cmp greatest greatest)) (not_below greatest greatest (at_most_itself greatest))))

-- and so does one whose stamp is at least all ranks
pub fits_past_all : (sorted : Sorted) (replicas : RunningMaxima) (order : TimeOrder)
    (view : time_order_of sorted replicas ≡ order) (label : Label) (seen : Seen) (stamp : Stamp)
    → label.stamp ≡ Some stamp → IsPositionOf stamp sorted.entries (length sorted.entries)
    → (past : History) (next : NextOperation) → IsTimeOrderOf order past → ComesNext past next label seen
    → (place : Place) × IsPlaceOf past.kind past.records next place × (place.fits ≡ true)
fits_past_all sorted replicas order view label seen stamp own there past next stands comes = (
  record { at = length sorted.entries; fits = true },
  place_past_all sorted replicas order view label seen past next stands comes (length sorted.entries) refl
      (subst (IsPastAll sorted.entries) (sym own) there),
  refl,
)
