use Rattle.std.proofs.Common.{◌≡◌}
use Rattle.std.specs.Prelude.{filter}
use Rattle.std.specs.List.{range_with_len}
use Rattle.ra_explain.specs.LabelFilter.{is_such_at}
use Rattle.ra_explain.specs.Places.{places_in}
use Rattle.ra_explain.proofs.label_filter.find_labels.Given as goal

-- the labels so far that pass are found
abbrev pub invariant-loop-label : goal.invariant-loop-label
invariant-loop-label l = l.found.items
    ≡ filter (is_such_at l.monitor.setup l.monitor.log (places_in l.monitor.log) l.sort) (range_with_len 0 l.label)
