use Rattle.ra_history_lines.proofs.ListBytes.{begins_with}
use Rattle.ra_history_lines.proofs.list.list.Goals as goal

pub loop-item-init : goal.loop-item-init
loop-item-init c = rw c.in_ok-items.ensures.items (begins_with c.args.field.now)
