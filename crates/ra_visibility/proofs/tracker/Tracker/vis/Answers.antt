use Rattle.std.proofs.Common.{◌≡◌, ◌<◌, sym, ap, subst}
use Rattle.std.specs.Prelude.{◌≤◌}
use Rattle.ra_visibility.specs.Seen.{count_in}
use Rattle.ra_visibility.specs.Kept.{issued_count}
use Rattle.ra_visibility.specs.Tracked.{labels_in}
use Rattle.ra_visibility.proofs.SeenCounts.{seen_issued}
use Rattle.ra_visibility.proofs.tracker.Tracker.vis.Goals as goal

pub returns-clause-issued : goal.returns-clause-issued
returns-clause-issued c = λ of.
    let t = c.self.inside.tracked in
    let known : t ≡ c.args.self.now.now = ap (λ a. a.now) c.self.view_is in
    let there = subst (λ s. c.args.label < labels_in s) (sym known) c.requires in
    let had = seen_issued t c.args.label of c.self.invariant.now there in
    subst (λ s. count_in c.vis.result of ≤ issued_count s of) known
    (subst (λ s. count_in s of ≤ issued_count t of) (sym c.vis.ensures) had)
