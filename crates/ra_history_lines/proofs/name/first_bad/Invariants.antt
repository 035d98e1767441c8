use Rattle.std.proofs.Common.{take}
use Rattle.ra_history_lines.specs.Names.{texts_of, AreDistinctNames}
use Rattle.ra_history_lines.proofs.name.first_bad.Given as goal

-- the visited words are distinct names
abbrev pub invariant-loop-place : goal.invariant-loop-place
invariant-loop-place l = AreDistinctNames (texts_of (take l.place l.words))
