use Rattle.std.proofs.Common.{refl}
use Rattle.ra_monitor.proofs.history.TrackedHistory.new.Goals as goal

pub returns : goal.returns
returns c =
    let setup = c.args.setup.now in
    record {
      tracker = c.in_ok-tracker.ensures.stands setup.kind;
      causal = tt;
      labels = refl;
      replicas = refl;
      witness = c.in_ok-witness.ensures.stands c.in_ok-order.ensures;
      taken = record { stamps = c.in_ok-taken.ensures.stamps; identifiers = c.in_ok-taken.ensures.identifiers };
      places = c.in_ok-taken.ensures.replicas;
      fault = refl;
      cycle = refl;
    }
