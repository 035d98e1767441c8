-- Definitions for proofs with a journal's bound: what the lock reads of a journal.
use Rattle.ra_journal.specs.declared.journal.Journal.{Ghosts}
use Rattle.ra_journal.specs.Log.{Readings, readings}

abbrev pub of_journal : {M C R S : Type 0} → Ghosts M C R S → Readings M C R S
of_journal g = readings g.setup g.log g.reply_of g.fault_of
