use Rattle.std.proofs.Common.{◌∙◌}
use Rattle.ra_explain.specs.Undelivered.{undelivered_at}
use Rattle.ra_explain.proofs.Ranges.{map_next}
use Rattle.ra_explain.proofs.undelivered.undelivered_at_end.Goals as goal

pub loop-replica-preserved : goal.loop-replica-preserved
loop-replica-preserved c =
    let m = c.args.monitor.now in
    c.in_ok-push.ensures.items
    ∙ map_next (undelivered_at m.setup m.log) c.loop-replica.replica c.loop-replica.all.items
    c.in_ok-undelivered_to.field-0 c.in_ok-undelivered_to.ensures c.loop-replica.invariant
