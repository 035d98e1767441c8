use Rattle.std.proofs.Common.{◌≡◌}
use Rattle.std.specs.Prelude.{flat_map}
use Rattle.std.specs.List.{range_with_len}
use Rattle.ra_explain.specs.Conflicts.{edges_at}
use Rattle.ra_explain.proofs.edges.edges_of_labels.Given as goal

-- the edges of the labels so far
abbrev pub invariant-loop-label : goal.invariant-loop-label
invariant-loop-label l = l.edges.items ≡ flat_map (edges_at l.log l.places) (range_with_len 0 l.label)
