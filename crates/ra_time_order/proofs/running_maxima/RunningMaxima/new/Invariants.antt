use Rattle.std.proofs.Common.{◌≡◌, ◌<◌, []}
use Rattle.std.specs.Prelude.{All, replicate}
use Rattle.ra_time_order.specs.RunningMaximum.{RunningMaximum}
use Rattle.ra_time_order.specs.RunningMaxima.{stamps_of}
use Rattle.ra_time_order.proofs.running_maxima.RunningMaxima.new.Given as goal

-- the members so far have no stamps, and each has room for one
abbrev pub invariant-loop : goal.invariant-loop
invariant-loop l = record {
  stamps : stamps_of l.members.items ≡ replicate l.counter [];
  room : All (λ (member : RunningMaximum). 0 < member.room) l.members.items;
}
