use Rattle.std.proofs.Common.{length, refl}
use Rattle.ra_visibility.specs.Seen.{count_in}
use Rattle.ra_time_order.specs.Stamps.{greatest_in}
use Rattle.ra_time_order.proofs.NewLabels.{put_made}
use Rattle.ra_time_order.proofs.NextRanks.{inserted_by_number}
use Rattle.ra_time_order.proofs.time_ranks.TimeRanks.put.Goals as goal

pub returns : goal.returns
returns c = λ past next stands comes.
    let sorted = c.self.inside.ranks in
    let replicas = c.self.inside.replicas in
    let found = greatest_in replicas.stamps (count_in c.args.seen.now) (length replicas.stamps) in
    let inserted = inserted_by_number sorted replicas c.args.self.now c.self.view_is c.args.label.now c.args.seen.now
    found c.rank-rank.result refl c.rank-rank.ensures past next stands comes c.push.new.self c.push.ensures.inserted in
    put_made sorted c.push.new.self replicas c.push-2.new.self c.args.self.now c.self.view_is c.args.label.now
    c.args.seen.now found c.rank-rank.result c.is_update.result refl c.rank-rank.ensures past next stands comes
    inserted c.is_update.ensures c.push-2.ensures
