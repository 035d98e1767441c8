use Rattle.std.proofs.Common.{take}
use Rattle.ra_precedence.specs.Conditions.{NameOnlyBelow}
use Rattle.ra_precedence.proofs.condition.name_only_below.Given as goal

abbrev pub invariant-loop-condition : goal.invariant-loop-condition
invariant-loop-condition l = NameOnlyBelow l.count (take l.condition-index l.conditions)
