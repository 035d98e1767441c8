use Rattle.std.proofs.Common.{Some, ap, sym, ◌∙◌}
use Rattle.ra_visibility.specs.Tracked.{refusal_in}
use Rattle.ra_visibility.proofs.TheoremIndex.{delivery_preserves_causality}
use Rattle.ra_visibility.proofs.TrackerChanges.{delivers, delivery_keeps, delivery_taken_back, delivery_stands}
use Rattle.ra_visibility.proofs.tracker.Tracker.deliver.Goals as goal

pub invariant_of-self : goal.invariant_of-self
invariant_of-self c =
    let d = c.deliver-from.ensures in
    let is = delivers c.self.inside.tracked c.args.self.now.now c.deliver-from.new.self c.args.replica c.args.label c.deliver-from.result.0 c.deliver-from.result.1
    (ap (λ t. t.now) c.self.view_is) c.self.invariant.now c.requires c.in_default.ensures d.delivered d.from d.stored in
    delivery_keeps c.args.self.now.now c.deliver-from.new.self c.args.replica c.args.label c.deliver-from.result.0 c.deliver-from.result.1 is

pub returns-clause-stands : goal.returns-clause-stands
returns-clause-stands c =
    let d = c.deliver-from.ensures in
    let is = delivers c.self.inside.tracked c.args.self.now.now c.deliver-from.new.self c.args.replica c.args.label c.deliver-from.result.0 c.deliver-from.result.1
    (ap (λ t. t.now) c.self.view_is) c.self.invariant.now c.requires c.in_default.ensures d.delivered d.from d.stored in
    delivery_stands c.args.self.now.now c.deliver-from.new.self c.args.replica c.args.label c.deliver-from.result.0 c.deliver-from.result.1 is

pub returns-clause-before : goal.returns-clause-before
returns-clause-before c =
    let d = c.deliver-from.ensures in
    let is = delivers c.self.inside.tracked c.args.self.now.now c.deliver-from.new.self c.args.replica c.args.label c.deliver-from.result.0 c.deliver-from.result.1
    (ap (λ t. t.now) c.self.view_is) c.self.invariant.now c.requires c.in_default.ensures d.delivered d.from d.stored in
    ap Some (delivery_taken_back c.args.self.now.now c.deliver-from.new.self c.args.replica c.args.label c.deliver-from.result.0 c.deliver-from.result.1 is)

pub returns-clause-causal : goal.returns-clause-causal
returns-clause-causal c = λ past stands causal.
    let t = c.args.self.now.now in
    let none = sym (ap (λ t. refusal_in t.now c.args.replica c.args.label) c.self.view_is) ∙ sym c.in_default.ensures in
    delivery_preserves_causality t past c.args.replica c.args.label stands c.requires none causal
