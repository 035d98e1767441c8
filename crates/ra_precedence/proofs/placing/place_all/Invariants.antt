use Rattle.std.proofs.Common.{◌≡◌, ◌≤◌, ◌-◌, ◌^◌, length}
use Rattle.ra_precedence.specs.Placing.{AreUsed}
use Rattle.ra_precedence.proofs.placing.place_all.Given as goal

abbrev pub invariant-loop-next : goal.invariant-loop-next
invariant-loop-next l = record {
  used : AreUsed l.conditions l.met.items l.numbers.items l.placed.items l.next;
  reached : l.next ≤ length l.placed.items;
  len : length l.numbers.items ≡ length l.fn.numbers.items;
}

abbrev pub decreases-loop-next : goal.decreases-loop-next
decreases-loop-next l = 2 ^ 64 - l.next
