use Rattle.std.proofs.Common.{◌≡◌, ◌≤◌, ◌*◌, length, take}
use Rattle.ra_history_writer.specs.Spelling.{commas}
use Rattle.ra_history_writer.proofs.size.more_size.Given as goal

-- the numbers so far are measured
abbrev pub invariant-loop-number : goal.invariant-loop-number
invariant-loop-number l = (l.size ≡ length (commas (take l.number-index l.numbers))) × (l.size ≤ 11 * l.number-index)
