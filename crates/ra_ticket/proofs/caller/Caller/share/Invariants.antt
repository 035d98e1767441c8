use Rattle.std.proofs.Common.{◌≡◌, ◌++◌, map, All}
use Rattle.std.specs.Arc.{arc_value}
use Rattle.std.specs.Vec.Iter.{into_iter_items}
use Rattle.ra_ticket.specs.Passes.{IsPassOf}
use Rattle.ra_ticket.specs.Callers.{pass_of}
use Rattle.ra_ticket.proofs.caller.Caller.share.Given as goal

abbrev pub invariant-loop-pass : goal.invariant-loop-pass
invariant-loop-pass g l = record {
  given : map pass_of l.callers.items ≡ l.yielded;
  left : l.fn.passes.items ≡ l.yielded ++ into_iter_items l.pass-iterator;
  own : All (IsPassOf (arc_value l.fn.lock)) (into_iter_items l.pass-iterator);
}
