use Rattle.std.proofs.Common.{◌≡◌, length, take}
use Rattle.ra_precedence.proofs.Using.{AreUsing}
use Rattle.ra_precedence.proofs.placing.use_label.Given as goal

abbrev pub invariant-loop-index : goal.invariant-loop-index
invariant-loop-index l = record {
  using_so_far : AreUsing l.conditions l.fn.met.items l.fn.placed.items l.next (take l.index-index l.index-items)
      l.met.items l.numbers.items l.placed.items;
  len : length l.numbers.items ≡ length l.fn.numbers.items;
}
