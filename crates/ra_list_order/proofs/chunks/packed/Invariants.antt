use Rattle.std.proofs.Common.{◌≤◌, ◌-◌, length, take}
use Rattle.ra_list_order.specs.Gathering.{ArePacked}
use Rattle.ra_list_order.proofs.chunks.packed.Given as goal

abbrev pub invariant-loop-done : goal.invariant-loop-done
invariant-loop-done l = record {
  within : l.done ≤ length l.elements;
  packed : ArePacked (take l.done l.elements) l.chunks.items l.places.items;
}

abbrev pub decreases-loop-done : goal.decreases-loop-done
decreases-loop-done l = length l.elements - l.done
