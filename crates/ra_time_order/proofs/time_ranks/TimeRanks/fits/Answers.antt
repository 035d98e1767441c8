use Rattle.std.proofs.Common.{sym, ap}
use Rattle.std.specs.Prelude.{unwrap_or}
use Rattle.ra_time_order.proofs.NextRanks.{fits_by_rank, fits_without_stamp, fits_past_all}
use Rattle.ra_time_order.proofs.time_ranks.TimeRanks.fits.Goals as goal

pub returns-in_default : goal.returns-in_default
returns-in_default c = fits_without_stamp c.args.self.now c.args.label.now c.args.seen.now c.in_default.is

pub returns-then-is_past_all : goal.returns-then-is_past_all
returns-then-is_past_all c =
    fits_past_all c.self.inside.ranks c.self.inside.replicas c.args.self.now c.self.view_is c.args.label.now
    c.args.seen.now c.in-Some.stamp c.in-Some.is (c.is_past_all.ensures c.if-is_past_all.true)

pub returns : goal.returns
returns c = λ past next stands comes.
    fits_by_rank c.self.inside.ranks c.self.inside.replicas c.args.self.now c.self.view_is c.args.label.now
    c.args.seen.now c.greatest.result c.in-Some.stamp c.greatest.ensures
    (sym (ap (λ own. unwrap_or own c.greatest.result) c.in-Some.is)) past next stands comes
    c.is_at_most.result c.is_at_most.ensures.not_above
