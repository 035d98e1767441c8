use Rattle.std.proofs.Common.{◌≡◌, length, take}
use Rattle.ra_precedence.specs.Placing.{AreReleased}
use Rattle.ra_precedence.proofs.placing.release.Given as goal

abbrev pub invariant-loop-label : goal.invariant-loop-label
invariant-loop-label l = record {
  released : AreReleased (take l.label-index l.labels) l.fn.numbers.items l.numbers.items l.fn.placed.items l.placed.items;
  len : length l.numbers.items ≡ length l.fn.numbers.items;
}
