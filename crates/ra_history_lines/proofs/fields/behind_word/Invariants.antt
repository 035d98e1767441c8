use Rattle.std.proofs.Common.{◌≡◌, ◌<◌, ◌≤◌, ◌-◌, length, take}
use Rattle.ra_history_lines.proofs.fields.behind_word.Given as goal

-- the bytes so far are those of the word
abbrev pub invariant-loop-at : goal.invariant-loop-at
invariant-loop-at l = (take l.at l.bytes ≡ take l.at l.word) × (l.at ≤ length l.word) × (length l.word < length l.bytes)

abbrev pub decreases-loop-at : goal.decreases-loop-at
decreases-loop-at l = length l.word - l.at
