use Rattle.std.proofs.Common.{take}
use Rattle.ra_rga_elements.specs.Groups.{IsRegrouped}
use Rattle.ra_rga_elements.proofs.split.regroup.Given as goal

-- the elements so far are in the group
abbrev pub invariant-loop-entry : goal.invariant-loop-entry
invariant-loop-entry l = IsRegrouped l.fn.elements (take l.entry-index l.entries) l.group l.elements
