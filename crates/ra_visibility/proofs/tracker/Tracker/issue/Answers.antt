use Rattle.std.proofs.Common.{Some, ap}
use Rattle.ra_visibility.proofs.TrackerChanges.{issues, issue_keeps, issue_taken_back, issue_stands}
use Rattle.ra_visibility.proofs.tracker.Tracker.issue.Goals as goal

pub invariant_of-self-2 : goal.invariant_of-self-2
invariant_of-self-2 c =
    let i = c.in_ok-was_stored.ensures in
    let is = issues c.self.inside.tracked c.args.self.now.now c.issue.new.self c.args.replica c.args.update c.in_ok-was_stored.was_stored
    (ap (λ t. t.now) c.self.view_is) c.self.invariant.now c.requires.replica c.requires.room i.issued i.stored in
    issue_keeps c.args.self.now.now c.issue.new.self c.args.replica c.args.update c.in_ok-was_stored.was_stored is

pub returns-clause-stands : goal.returns-clause-stands
returns-clause-stands c =
    let i = c.in_ok-was_stored.ensures in
    let is = issues c.self.inside.tracked c.args.self.now.now c.issue.new.self c.args.replica c.args.update c.in_ok-was_stored.was_stored
    (ap (λ t. t.now) c.self.view_is) c.self.invariant.now c.requires.replica c.requires.room i.issued i.stored in
    issue_stands c.args.self.now.now c.issue.new.self c.args.replica c.args.update c.in_ok-was_stored.was_stored is

pub returns-clause-before : goal.returns-clause-before
returns-clause-before c =
    let i = c.in_ok-was_stored.ensures in
    let is = issues c.self.inside.tracked c.args.self.now.now c.issue.new.self c.args.replica c.args.update c.in_ok-was_stored.was_stored
    (ap (λ t. t.now) c.self.view_is) c.self.invariant.now c.requires.replica c.requires.room i.issued i.stored in
    ap Some (issue_taken_back c.args.self.now.now c.issue.new.self c.args.replica c.args.update c.in_ok-was_stored.was_stored is)
