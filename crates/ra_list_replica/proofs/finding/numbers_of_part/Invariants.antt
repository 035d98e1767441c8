use Rattle.std.proofs.Common.{take}
use Rattle.ra_list_replica.specs.Numbers.{AreNumbersOf}
use Rattle.ra_list_replica.proofs.finding.numbers_of_part.Given as goal

-- the numbers are those of the elements so far
abbrev pub invariant-loop-element : goal.invariant-loop-element
invariant-loop-element l = AreNumbersOf l.elements (take l.element-index l.list) l.numbers.items
