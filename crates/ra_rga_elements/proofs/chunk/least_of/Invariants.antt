use Rattle.std.proofs.Common.{take}
use Rattle.ra_rga_elements.specs.Entries.{AllAtLeast}
use Rattle.ra_rga_elements.proofs.chunk.least_of.Given as goal

-- no entry so far has a smaller stamp
abbrev pub invariant-loop-entry : goal.invariant-loop-entry
invariant-loop-entry l = AllAtLeast l.least (take l.entry-index l.entries)
