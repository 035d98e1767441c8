use Rattle.ra_any_order.specs.Elements.{AreNewestOf}
use Rattle.ra_any_order.proofs.elements.newest_of.Given as goal

abbrev pub invariant-loop-replica : goal.invariant-loop-replica
invariant-loop-replica l = AreNewestOf l.newest l.element l.replica l.found.items
