use Rattle.std.proofs.Common.{◌≡◌, length, take}
use Rattle.ra_precedence.specs.Placing.{AreAdded}
use Rattle.ra_precedence.proofs.uses.Uses.add_all.Given as goal

abbrev pub invariant-loop-label : goal.invariant-loop-label
invariant-loop-label l = record {
  added : AreAdded (take l.label-index l.labels) l.index l.fn.self l.self;
  len : length l.self ≡ length l.fn.self;
}
