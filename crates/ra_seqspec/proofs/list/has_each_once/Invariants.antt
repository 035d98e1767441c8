use Rattle.std.proofs.Common.{◌≡◌, length}
use Rattle.ra_labels.specs.FreeList.{has_each_once}
use Rattle.ra_seqspec.proofs.list.has_each_once.Given as goal

-- the elements so far are not in the list again
abbrev pub invariant-loop-element : goal.invariant-loop-element
invariant-loop-element l = record { once : has_each_once l.list ≡ has_each_once l.left }

abbrev pub decreases-loop-element : goal.decreases-loop-element
decreases-loop-element l = length l.left
