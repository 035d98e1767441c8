use Rattle.std.proofs.Common.{◌≡◌, ◌<◌, ℕ, length, get_or}
use Rattle.ra_any_order.specs.declared.views.View.{View}
use Rattle.ra_any_order.specs.Changes.{IsNewView}
use Rattle.ra_any_order.proofs.views.new_views.Given as goal

abbrev pub invariant-loop : goal.invariant-loop
invariant-loop l = record {
  len : length l.views.items ≡ l.counter;
  each : (i : ℕ) (none : View) → i < length l.views.items → IsNewView (get_or l.views.items i none);
}
