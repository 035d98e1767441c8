use Rattle.std.proofs.Common.{◌≡◌, ◌<◌, ◌≤◌, ℕ, length, get_or}
use Rattle.ra_another_order.specs.Extent.{end_in}
use Rattle.ra_another_order.proofs.ends.ends_of.Given as goal

abbrev pub invariant-loop-at : goal.invariant-loop-at
invariant-loop-at l = record {
  len : length l.ends.items ≡ l.at;
  each : (i : ℕ) → i < l.at → get_or l.ends.items i 0 ≡ end_in l.places (get_or l.counts i 0);
  within : l.at ≤ length l.counts;
}
