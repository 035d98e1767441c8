use Rattle.std.proofs.Common.{sym, ◌∙◌}
use Rattle.ra_labels.proofs.Results.{on_ok}
use Rattle.ra_any_order.specs.Situation.{operations_in}
use Rattle.ra_any_order.proofs.TakenUpdates.{taken_if_put, none_taken}
use Rattle.ra_any_order.proofs.changes.take.Goals as goal

pub returns-in-Some : goal.returns-in-Some
returns-in-Some c = on_ok c.put.result c.put.ensures (taken_if_put (operations_in c.args.operations.now) c.in-Some.element
    c.args.replica c.args.update c.args.newest.now c.put.new.newest c.args.changed.now.items c.put.new.changed.items
    (sym c.element_at.ensures ∙ c.in-Some.is))

pub returns-in-None : goal.returns-in-None
returns-in-None c = none_taken (operations_in c.args.operations.now) c.args.replica c.args.update c.args.newest.now
    c.args.changed.now.items (sym c.element_at.ensures ∙ c.in-None.is)
