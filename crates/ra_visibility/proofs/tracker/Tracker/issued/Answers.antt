use Rattle.std.proofs.Common.{◌≡◌, ◌<◌, sym, ap, subst}
use Rattle.ra_visibility.specs.Tracked.{replicas_in}
use Rattle.ra_visibility.specs.Kept.{AreIssued}
use Rattle.ra_visibility.proofs.IssuedUpdates.{issued_are}
use Rattle.ra_visibility.proofs.tracker.Tracker.issued.Goals as goal

pub returns : goal.returns
returns c =
    let t = c.self.inside.tracked in
    let known : t ≡ c.args.self.now.now = ap (λ a. a.now) c.self.view_is in
    let there = subst (λ s. c.args.replica < replicas_in s) (sym known) c.requires in
    subst (λ s. AreIssued s c.args.replica c.issued.result.now) known
    (subst (AreIssued t c.args.replica) (sym c.issued.ensures) (issued_are t c.self.invariant.now c.args.replica there))
