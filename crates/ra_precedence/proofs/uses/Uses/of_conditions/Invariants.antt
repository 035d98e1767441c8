use Rattle.std.proofs.Common.{◌≡◌, length, take}
use Rattle.ra_precedence.specs.Placing.{AreUses}
use Rattle.ra_precedence.proofs.uses.Uses.of_conditions.Given as goal

abbrev pub invariant-loop-index : goal.invariant-loop-index
invariant-loop-index l = record {
  uses_are : AreUses (take l.index l.conditions) l.uses;
  len : length l.uses ≡ l.count;
}
