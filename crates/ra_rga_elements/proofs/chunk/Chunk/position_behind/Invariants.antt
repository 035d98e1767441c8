use Rattle.std.proofs.Common.{◌≡◌, ◌-◌, ◌<◌, ◌≤◌, ℕ, vec_len}
use Rattle.ra_rga_elements.specs.Entries.{entry_at}
use Rattle.ra_rga_elements.proofs.chunk.Chunk.position_behind.Given as goal

-- no entry so far is the element
abbrev pub invariant-loop-position : goal.invariant-loop-position
invariant-loop-position l = record {
  among : l.position ≤ vec_len l.self-inside.entries;
  before : (k : ℕ) → k < l.position → ¬ ((entry_at l.self-inside.entries.items k).number ≡ l.number);
}

abbrev pub decreases-loop-position : goal.decreases-loop-position
decreases-loop-position l = vec_len l.self-inside.entries - l.position
