use Rattle.std.proofs.Common.{◌≡◌, filter}
use Rattle.std.specs.Prelude.{not}
use Rattle.std.specs.List.{list_all}
use Rattle.ra_labels.specs.Lists.{is_among}
use Rattle.ra_labels.specs.FreeList.{shown_in}
use Rattle.ra_seqspec.specs.ListElements.{list_of}
use Rattle.ra_seqspec.proofs.list.are_listed.Given as goal

-- the shown elements so far are in the list
abbrev pub invariant-loop-element : goal.invariant-loop-element
invariant-loop-element l = record {
  listed : list_all (λ x. is_among x l.list) (shown_in (list_of l.inserted l.removed))
      ≡ list_all (λ x. is_among x l.list) (filter (λ x. not (is_among x l.removed.keys)) l.element-iterator);
}
