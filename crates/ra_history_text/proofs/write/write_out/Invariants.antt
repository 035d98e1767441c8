use Rattle.std.proofs.Common.{length}
use Rattle.ra_history_text.specs.Written.{HasWritten}
use Rattle.ra_history_text.proofs.write.write_out.Given as goal

-- the written bytes followed by the remaining ones are the given bytes
abbrev pub invariant-loop-rest : goal.invariant-loop-rest
invariant-loop-rest g l = HasWritten (g.W.Write.contents l.initial.writer) (g.W.Write.contents l.writer) l.bytes l.rest

abbrev pub decreases-loop-rest : goal.decreases-loop-rest
decreases-loop-rest g l = length l.rest
