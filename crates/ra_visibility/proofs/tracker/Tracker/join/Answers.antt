use Rattle.std.proofs.Common.{ap}
use Rattle.ra_visibility.proofs.TrackerChanges.{joins, join_keeps, join_stands}
use Rattle.ra_visibility.proofs.tracker.Tracker.join.Goals as goal

pub invariant_of-self-2 : goal.invariant_of-self-2
invariant_of-self-2 c =
    let is = joins c.self.inside.tracked c.args.self.now.now c.join.new.self c.args.from (ap (λ t. t.now) c.self.view_is)
    c.self.invariant.now c.requires.from c.requires.room c.in_ok-join.ensures.joined in
    join_keeps c.args.self.now.now c.join.new.self c.args.from is

pub returns-clause-stands : goal.returns-clause-stands
returns-clause-stands c =
    let is = joins c.self.inside.tracked c.args.self.now.now c.join.new.self c.args.from (ap (λ t. t.now) c.self.view_is)
    c.self.invariant.now c.requires.from c.requires.room c.in_ok-join.ensures.joined in
    join_stands c.args.self.now.now c.join.new.self c.args.from is
