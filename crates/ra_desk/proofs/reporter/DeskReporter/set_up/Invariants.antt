use Rattle.std.proofs.Common.{◌≡◌, ◌++◌, map, All, Some}
use Rattle.std.specs.Vec.Iter.{into_iter_items}
use Rattle.ra_ticket.specs.Callers.{pass_of}
use Rattle.ra_ticket.specs.Passes.{pass_setup}
use Rattle.ra_desk.specs.Reports.{setup_of}
use Rattle.ra_desk.proofs.reporter.DeskReporter.set_up.Given as goal

abbrev pub invariant-loop-caller : goal.invariant-loop-caller
invariant-loop-caller l = record {
  given : map (λ r. r.caller) l.all.items ≡ l.yielded;
  left : l.fn.callers.items ≡ l.yielded ++ into_iter_items l.caller-iterator;
  alike : All (λ r. setup_of r ≡ l.fn.setup) l.all.items;
  same : All (λ c. pass_setup (pass_of c) ≡ Some l.fn.setup) (into_iter_items l.caller-iterator);
}
