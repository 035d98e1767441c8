use Rattle.std.proofs.Common.{◌≡◌, length}
use Rattle.ra_visibility.specs.Tracked.{labels_in, replicas_in}
use Rattle.ra_time_order.specs.contracts.time_order.TimeOrderNamedOrder.TheImpl as timed
use Rattle.ra_tests.proofs.sizes.many_labels_stand_by_their_stamps.Given as goal

-- the tracker and the order both have one label for each iteration
abbrev pub invariant-loop-number : goal.invariant-loop-number
invariant-loop-number g l =
    (labels_in l.tracker.now ≡ l.number) × (replicas_in l.tracker.now ≡ 2)
    × (length (timed.ghosts.listed l.order) ≡ l.number)
