use Rattle.std.proofs.Common.{◌≡◌, ◌<◌, ◌≤◌, ◌-◌, drop, length}
use Rattle.ra_history_lines.specs.ListBytes.{numbers_behind}
use Rattle.ra_history_lines.specs.FieldBytes.{field_behind}
use Rattle.ra_history_lines.proofs.list.with_digits.Given as goal

-- the value so far, with the remaining digits
abbrev pub invariant-loop-at : goal.invariant-loop-at
invariant-loop-at l = (numbers_behind l.value (drop l.at l.more) ≡ numbers_behind l.fn.first l.more)
    × (field_behind l.value (drop l.at l.more) ≡ field_behind l.fn.first l.more)
    × (0 < l.value) × (l.value < 10000000000) × (l.at ≤ length l.more)

abbrev pub decreases-loop-at : goal.decreases-loop-at
decreases-loop-at l = length l.more - l.at
