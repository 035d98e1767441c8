use Rattle.std.proofs.Common.{◌≡◌, None, length}
use Rattle.ra_history_lines.specs.Fields.{pieces_at}
use Rattle.ra_history_lines.specs.Reading.{numbers_read}
use Rattle.ra_history_lines.proofs.ListBytes.{goes_on}
use Rattle.ra_history_lines.proofs.list.list.Given as goal

-- the numbers so far, with those of the remaining bytes
abbrev pub invariant-loop-item : goal.invariant-loop-item
invariant-loop-item l = goes_on l.items.items None l.rest ≡ numbers_read (pieces_at 44 l.fn.field)

abbrev pub decreases-loop-item : goal.decreases-loop-item
decreases-loop-item l = length l.rest
