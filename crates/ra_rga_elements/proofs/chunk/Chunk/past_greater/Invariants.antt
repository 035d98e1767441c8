use Rattle.std.proofs.Common.{◌≡◌, ◌-◌, ◌<◌, ◌≤◌, ℕ, true, get_or, vec_len}
use Rattle.std.specs.Ordering.{is_lt}
use Rattle.ra_labels.specs.NamedOrder.{stamp_cmp}
use Rattle.ra_rga_elements.specs.Entries.{no_entry}
use Rattle.ra_rga_elements.proofs.chunk.Chunk.past_greater.Given as goal

-- each entry so far has a greater stamp
abbrev pub invariant-loop-position : goal.invariant-loop-position
invariant-loop-position l = record {
  among : l.position ≤ vec_len l.self-inside.entries;
  behind : l.from ≤ l.position;
  greater : (k : ℕ) → l.from ≤ k → k < l.position
      → is_lt (stamp_cmp l.stamp (get_or l.self-inside.entries.items k no_entry).stamp) ≡ true;
}

abbrev pub decreases-loop-position : goal.decreases-loop-position
decreases-loop-position l = vec_len l.self-inside.entries - l.position
