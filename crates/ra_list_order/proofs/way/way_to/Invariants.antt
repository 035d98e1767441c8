use Rattle.std.proofs.Common.{◌≡◌, true, ◌≤◌, length, reverse, take}
use Rattle.std.specs.Prelude.{All, Contains}
use Rattle.ra_labels.specs.Edges.{IsChain}
use Rattle.ra_list_order.specs.Marks.{is_marked}
use Rattle.ra_list_order.proofs.way.way_to.Given as goal

abbrev pub invariant-loop-left : goal.invariant-loop-left
invariant-loop-left l = record {
  within : l.left ≤ length l.walked;
  marked : is_marked l.start (take l.left l.walked) l.at ≡ true;
  chain : IsChain l.at (reverse l.way.items) l.goal;
  among : All (Contains l.walked) (reverse l.way.items);
}

abbrev pub decreases-loop-left : goal.decreases-loop-left
decreases-loop-left l = l.left
