use Rattle.std.proofs.Common.{◌≡◌, ◌<◌, ℕ, length, get_or}
use Rattle.ra_visibility.specs.Tracked.{labels_in, replicas_in}
use Rattle.ra_rga_precedence.specs.declared.view.View.{View}
use Rattle.ra_rga_precedence.specs.Views.{IsNewView}
use Rattle.ra_rga_precedence.proofs.demands.new_views.Given as goal

abbrev pub invariant-loop : goal.invariant-loop
invariant-loop l = record {
  len : length l.views.items ≡ l.counter;
  each : (i : ℕ) (none : View) → i < length l.views.items
      → IsNewView (replicas_in l.tracker.now) (labels_in l.tracker.now) (get_or l.views.items i none);
}
