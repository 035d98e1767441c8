use Rattle.std.proofs.Common.{◌≡◌, ◌++◌, take, drop, map}
use Rattle.ra_rga_elements.specs.Groups.{shifted}
use Rattle.ra_rga_elements.proofs.split.shift.Given as goal

-- the groups so far are shifted
abbrev pub invariant-loop-group : goal.invariant-loop-group
invariant-loop-group l = l.places ≡ map (shifted l.at) (take l.group l.fn.places) ++ drop l.group l.fn.places
