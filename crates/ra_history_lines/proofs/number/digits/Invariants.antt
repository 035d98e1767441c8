use Rattle.std.proofs.Common.{◌≡◌, drop}
use Rattle.ra_history_lines.specs.Reading.{digits_read}
use Rattle.ra_history_lines.proofs.number.digits.Given as goal

-- the value so far, with the remaining digits
abbrev pub invariant-loop-byte : goal.invariant-loop-byte
invariant-loop-byte l = digits_read l.value (drop l.byte-index l.field) ≡ digits_read 0 l.field
