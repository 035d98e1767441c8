use Rattle.std.proofs.Common.{◌≡◌, ◌++◌, length}
use Rattle.ra_seqspec.specs.ListElements.{list_of, shown_among}
use Rattle.ra_seqspec.proofs.list.shown_among.Given as goal

-- the shown elements so far
abbrev pub invariant-loop-element : goal.invariant-loop-element
invariant-loop-element l = record {
  list : l.elements.items ++ shown_among (list_of l.inserted l.removed) l.left
      ≡ shown_among (list_of l.inserted l.removed) l.list;
}

abbrev pub decreases-loop-element : goal.decreases-loop-element
decreases-loop-element l = length l.left
