use Rattle.std.proofs.Common.{length, ◌-◌, ℕ, ◌<◌, ◌≤◌, get_or}
use Rattle.ra_siblings.proofs.label_set.first_at_least.Given as goal

-- the labels from the first index to this one are less
abbrev pub invariant-loop-index : goal.invariant-loop-index
invariant-loop-index l = record {
  within : (l.from ≤ l.index) × (l.index ≤ length l.labels);
  below : (i : ℕ) → l.from ≤ i → i < l.index → get_or l.labels i 0 < l.label;
}

abbrev pub decreases-loop-index : goal.decreases-loop-index
decreases-loop-index l = length l.labels - l.index
