use Rattle.std.proofs.Common.{◌≡◌, ◌++◌, filter}
use Rattle.std.specs.Prelude.{not}
use Rattle.ra_labels.specs.Lists.{is_among}
use Rattle.ra_labels.specs.FreeList.{shown_in}
use Rattle.ra_seqspec.specs.ListElements.{list_of}
use Rattle.ra_seqspec.proofs.list.shown.Given as goal

-- the shown elements so far
abbrev pub invariant-loop-element : goal.invariant-loop-element
invariant-loop-element l = record {
  list : l.elements.items ++ filter (λ x. not (is_among x l.removed.keys)) l.element-iterator
      ≡ shown_in (list_of l.inserted l.removed);
}
