use Rattle.std.proofs.Common.{◌≡◌, ◌++◌, take}
use Rattle.ra_history_writer.specs.Spelling.{commas}
use Rattle.ra_history_writer.proofs.spelling.put_more.Given as goal

-- the numbers so far are written
abbrev pub invariant-loop-number : goal.invariant-loop-number
invariant-loop-number l = l.out.items ≡ l.initial.out.items ++ commas (take l.number-index l.numbers)
