use Rattle.std.proofs.Common.{length, refl}
use Rattle.ra_visibility.specs.Seen.{count_in}
use Rattle.ra_time_order.specs.Stamps.{greatest_in}
use Rattle.ra_time_order.proofs.NewLabels.{put_made}
use Rattle.ra_time_order.proofs.time_order.TimeOrderNamedOrder.put.Goals as goal

pub returns-clause-stands : goal.returns-clause-stands
returns-clause-stands c = λ past next stands comes place.
    let replicas = c.self.inside.replicas in
    put_made c.self.inside.sorted c.insert.new.self replicas c.push.new.self c.args.self.now c.self.view_is
    c.args.label.now c.args.seen.now
    (greatest_in replicas.stamps (count_in c.args.seen.now) (length replicas.stamps)) c.rank-rank.result
    c.is_update.result refl c.rank-rank.ensures past next stands comes
    c.insert.ensures.inserted c.is_update.ensures c.push.ensures
