-- Lemmas on the search for the longest explained prefix: what is known of the ends that it is given.
use Rattle.std.proofs.Common.{◌≡◌, ℕ, ◌<◌, ◌≤◌, false, List, Option, length, get_or, sym, ap, subst, ◌∙◌}
use Rattle.std.specs.Borrow.{Bor}
use Rattle.std.specs.Prelude.{slice_get}
use Rattle.ra_labels.specs.declared.kind.Kind.{Kind}
use Rattle.ra_labels.specs.declared.operation.Op.{Op}
use Rattle.ra_theorems.specs.AnyOrder.{is_of_any_order}
use Rattle.ra_visibility.specs.Tracked.{labels_in}
use Rattle.ra_any_order.specs.Situation.{operations_in}
use Rattle.ra_rga_precedence.specs.Complete.{AreCompleteCounts}
use Rattle.ra_monitor.specs.Monitor.{MonitorEntry}
use Rattle.ra_another_order.specs.declared.labels.Labels.{Labels}
use Rattle.ra_another_order.specs.Extent.{AreEnds, CanBeSearched, IsLastExplained, IsExtent, HasExtent}
use Rattle.ra_another_order.specs.Operations.{AreReported}
use Rattle.ra_another_order.proofs.Extents.{searchable, extent_at, stop_at}

-- what is given are slices of what is known
module _ (kind : Kind) (replicas : ℕ) (log : List MonitorEntry) (it : Labels) (are : AreReported kind replicas log it)
    (asked : is_of_any_order kind ≡ false) (operations : List (Bor Op)) (places : List ℕ) (bound : ℕ)
    (counts given ends : List ℕ) (operations_are : operations ≡ it.operations.items) (places_are : places ≡ it.places.items)
    (bound_is : bound ≡ labels_in it.tracker.now) (given_are : given ≡ counts)
    (complete : AreCompleteCounts (operations_in operations) bound counts) (ending : AreEnds places given ends) where
  abbrev listed : List Op
  listed = operations_in it.operations.items

  are_counts : AreCompleteCounts listed (length it.places.items) counts
  are_counts =
      subst (λ b. AreCompleteCounts listed b counts) (bound_is ∙ are.visibility.labels ∙ sym are.count)
      (subst (λ ops. AreCompleteCounts (operations_in ops) bound counts) operations_are complete)

  are_ends : AreEnds it.places.items counts ends
  are_ends = subst (λ cs. AreEnds it.places.items cs ends) given_are (subst (λ ps. AreEnds ps given ends) places_are ending)

  pub can_be_searched : CanBeSearched kind replicas log ends
  can_be_searched =
      searchable kind replicas log it.places.items are.count are.places listed are.operations asked counts ends are_counts
      are_ends

  pub within_counts : (last : ℕ) → IsLastExplained kind replicas log ends last → last < length counts
  within_counts last is = subst (λ l. last < l) are_ends.len is.within

  pub extent_found : (last : ℕ) → IsLastExplained kind replicas log ends last → (explained : ℕ)
      → explained ≡ get_or counts last 0 → (stop : Option ℕ) → stop ≡ slice_get places explained
      → HasExtent kind replicas log (record { explained = explained; stop = stop })
  extent_found last is explained here stop stop_is =
      let (low, whole) = are_counts.each last (within_counts last is) in
      record {
        extent = subst (IsExtent kind replicas log) (sym here)
            (extent_at kind replicas log it.places.items are.count are.places listed are.operations asked counts ends
            are_counts are_ends last is);
        stop = stop_at kind replicas log it.places.items are.count are.places explained
            (subst (λ n. n ≤ length it.places.items) (sym here) low) stop
            (stop_is ∙ ap (λ ps. slice_get ps explained) places_are);
      }
