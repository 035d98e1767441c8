use Rattle.std.proofs.Common.{◌≡◌}
use Rattle.std.specs.Prelude.{filter}
use Rattle.std.specs.List.{range_with_len}
use Rattle.ra_explain.specs.LabelFilter.{is_with_at}
use Rattle.ra_explain.proofs.label_filter.labels_with.Given as goal

-- the labels so far that pass are found
abbrev pub invariant-loop-label : goal.invariant-loop-label
invariant-loop-label l = l.found.items ≡ filter (is_with_at l.log l.places l.sort) (range_with_len 0 l.label)
