use Rattle.ra_any_reads.proofs.Trimmed.{EndsAt}
use Rattle.ra_any_reads.proofs.trimming.trimmed.Given as goal

-- the counts so far end where the last one that is not 0 is
abbrev pub invariant-loop-index : goal.invariant-loop-index
invariant-loop-index l = EndsAt l.counts l.index l.end
