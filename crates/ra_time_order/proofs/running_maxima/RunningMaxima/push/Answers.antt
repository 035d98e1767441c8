use Rattle.std.proofs.Common.{◌<◌, true, length, sym, ap, ◌∙◌, arith}
use Rattle.ra_time_order.specs.RunningMaxima.{RunningMaxima}
use Rattle.ra_time_order.specs.Stamps.{stamps_with}
use Rattle.std.specs.Prelude.{Bool}
use Rattle.ra_time_order.proofs.Members.{stamps_pushed, kept_pushed}
use Rattle.ra_time_order.proofs.running_maxima.RunningMaxima.push.Goals as goal

pub invariant_of-self : goal.invariant_of-self
invariant_of-self c =
    let members = c.self.inside.members in
    let there : c.args.replica < length members.items = omega (arith, c.if-at-len.true, c.len.ensures, members.ok.0) in
    let now = c.max-self-inside.ensures in
    kept_pushed _ _ _ c.self.invariant _ _ _ there
    (ap (λ (r : RunningMaxima). r.has_room) c.self.view_is ∙ c.requires)
    (omega (arith, now)) (omega (arith, now)) (omega (arith, now, there, c.self.invariant.within))

pub returns-then-at-len : goal.returns-then-at-len
returns-then-at-len c =
    let members = c.self.inside.members in
    stamps_pushed members.items c.args.replica _ _ _
    (omega (arith, c.if-at-len.true, c.len.ensures, members.ok.0)) c.index_mut.ensures.value c.push.ensures
    ∙ ap (λ ss. stamps_with ss c.args.replica true c.args.own) (ap (λ (r : RunningMaxima). r.stamps) c.self.view_is)
    ∙ ap (λ (update : Bool). stamps_with c.args.self.now.stamps c.args.replica update c.args.own) (sym c.if-update.true)
