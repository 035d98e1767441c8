use Rattle.std.proofs.Common.{drop}
use Rattle.ra_history_writer.proofs.Entries.{IsMeasuredUpTo}
use Rattle.ra_history_writer.proofs.writing.first_long.Given as goal

-- the entries so far are measured
abbrev pub invariant-loop-entry : goal.invariant-loop-entry
invariant-loop-entry l = IsMeasuredUpTo l.names l.log (drop l.entry-index l.log) l.failed l.place
