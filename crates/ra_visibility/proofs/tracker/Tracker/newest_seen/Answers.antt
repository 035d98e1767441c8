use Rattle.std.proofs.Common.{◌≡◌, ◌<◌, sym, ap, subst}
use Rattle.std.specs.Prelude.{IfSome}
use Rattle.ra_visibility.specs.Tracked.{labels_in, IsVisibilityOf}
use Rattle.ra_visibility.specs.Newest.{IsNewestSeen}
use Rattle.ra_visibility.proofs.NewestUpdates.{newest_is, newest_below}
use Rattle.ra_visibility.proofs.tracker.Tracker.newest_seen.Goals as goal

pub returns-clause-newest : goal.returns-clause-newest
returns-clause-newest c = λ past stands.
    let t = c.self.inside.tracked in
    let known : t ≡ c.args.self.now.now = ap (λ a. a.now) c.self.view_is in
    let there = subst (λ s. c.args.label < labels_in s) (sym known) c.requires in
    let of_inside = subst (λ s. IsVisibilityOf s past) (sym known) stands in
    subst (IsNewestSeen past.records c.args.label c.args.replica) (sym c.newest_seen.ensures)
    (newest_is t past c.self.invariant.now of_inside c.args.label c.args.replica there)

pub returns-clause-below : goal.returns-clause-below
returns-clause-below c =
    let t = c.self.inside.tracked in
    let known : t ≡ c.args.self.now.now = ap (λ a. a.now) c.self.view_is in
    let there = subst (λ s. c.args.label < labels_in s) (sym known) c.requires in
    subst (λ s. IfSome c.newest_seen.result (λ newest. newest < labels_in s)) known
    (subst (λ o. IfSome o (λ newest. newest < labels_in t)) (sym c.newest_seen.ensures)
    (newest_below t c.self.invariant.now c.args.label c.args.replica there))
