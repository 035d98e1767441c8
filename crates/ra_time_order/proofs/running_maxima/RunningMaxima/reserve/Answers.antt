use Rattle.std.proofs.Common.{ap, ◌∙◌}
use Rattle.std.proofs.lemmas.Result.{on_ok_weaker}
use Rattle.ra_time_order.specs.RunningMaxima.{RunningMaxima}
use Rattle.ra_time_order.proofs.Members.{stamps_spared, kept_spared, room_for_all}
use Rattle.ra_time_order.proofs.running_maxima.RunningMaxima.reserve.Goals as goal

pub returns-clause-stamps : goal.returns-clause-stamps
returns-clause-stamps c = stamps_spared _ _ _ _ c.index_mut.ensures.value c.reserve.ensures.stamps
    ∙ ap (λ (r : RunningMaxima). r.stamps) c.self.view_is

pub returns-clause-room : goal.returns-clause-room
returns-clause-room c =
    on_ok_weaker c.reserve.result (room_for_all _ _ _ c.self.invariant c.reserve.new.self) c.reserve.ensures.room

pub invariant_of-self : goal.invariant_of-self
invariant_of-self c = kept_spared _ _ _ c.self.invariant _ _ c.index_mut.ensures.value c.reserve.ensures.stamps
