use Rattle.std.proofs.Common.{ap, ◌∙◌}
use Rattle.ra_witness.specs.Overriding.{labels_in}
use Rattle.ra_witness.proofs.Lasts.{lasts-more}
use Rattle.ra_witness.proofs.overriding.last_updates.no_lasts.Goals as goal

pub loop-preserved : goal.loop-preserved
loop-preserved c =
    ap labels_in c.in_ok-push.ensures.items
    ∙ lasts-more c.loop.lasts.items c.new.result c.loop.counter c.loop.invariant c.new.ensures
