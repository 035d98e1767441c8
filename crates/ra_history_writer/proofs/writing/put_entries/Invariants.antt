use Rattle.std.proofs.Common.{drop}
use Rattle.ra_history_writer.proofs.Entries.{IsPutUpTo}
use Rattle.ra_history_writer.proofs.writing.put_entries.Given as goal

-- the entries so far are written
abbrev pub invariant-loop-entry : goal.invariant-loop-entry
invariant-loop-entry l = IsPutUpTo l.names l.log (drop l.entry-index l.log) l.failed l.initial.text.items l.text.items
