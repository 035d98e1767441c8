use Rattle.std.proofs.Common.{◌≡◌, length}
use Rattle.std.specs.List.{list_all}
use Rattle.ra_labels.specs.Lists.{is_among}
use Rattle.ra_labels.specs.FreeList.{shown_in}
use Rattle.ra_seqspec.specs.ListElements.{list_of}
use Rattle.ra_seqspec.proofs.list.are_shown.Given as goal

-- the elements so far are shown
abbrev pub invariant-loop-element : goal.invariant-loop-element
invariant-loop-element l = record {
  shown : list_all (λ x. is_among x (shown_in (list_of l.inserted l.removed))) l.list
      ≡ list_all (λ x. is_among x (shown_in (list_of l.inserted l.removed))) l.left;
}

abbrev pub decreases-loop-element : goal.decreases-loop-element
decreases-loop-element l = length l.left
