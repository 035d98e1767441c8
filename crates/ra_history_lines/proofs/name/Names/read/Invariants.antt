use Rattle.std.proofs.Common.{length}
use Rattle.ra_history_lines.specs.Names.{ListsSoFar}
use Rattle.ra_history_lines.proofs.name.Names.read.Given as goal

-- the names so far, followed by the remaining fields
abbrev pub invariant-loop-name : goal.invariant-loop-name
invariant-loop-name l = ListsSoFar l.format l.line l.names l.fields

abbrev pub decreases-loop-name : goal.decreases-loop-name
decreases-loop-name l = length l.fields
