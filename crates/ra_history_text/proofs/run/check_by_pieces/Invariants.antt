use Rattle.ra_history_text.specs.Run.{IsRunning, HasGiven}
use Rattle.ra_history_text.proofs.run.check_by_pieces.Given as goal

-- the bytes read so far are consumed, their reply lines are written, and each read returned at least one byte
abbrev pub invariant-loop : goal.invariant-loop
invariant-loop g l =
    IsRunning (g.R.Read.remaining l.initial.reader) (g.R.Read.remaining l.reader) (g.W.Write.contents l.initial.writer)
    (g.W.Write.contents l.writer) l.session l.out.items
    × HasGiven (g.R.Read.remaining l.initial.reader) (g.R.Read.remaining l.reader) l.counter
