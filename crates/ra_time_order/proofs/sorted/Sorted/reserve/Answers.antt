use Rattle.std.proofs.Common.{sym, ap, ◌∙◌, subst}
use Rattle.std.specs.List.{AllByRecursion}
use Rattle.ra_time_order.specs.Sorted.{Sorted, UpTo}
use Rattle.ra_time_order.proofs.Halves.{split_keeps}
use Rattle.ra_time_order.proofs.FiledLabels.{room_given, room_there}
use Rattle.ra_time_order.proofs.sorted.Sorted.reserve.Goals as goal

pub returns-then-has_room-clause-room : goal.returns-then-has_room-clause-room
returns-then-has_room-clause-room c = room_there _ _ _ _ _ c.self.invariant.kept c.index.ensures
    (sym c.has_room.ensures.room ∙ c.if-has_room.true) c.self.view_is

pub invariant_of-self-2 : goal.invariant_of-self-2
invariant_of-self-2 c =
    let split = split_keeps _ _ _ _ c.self.invariant.kept c.in_ok-split.ensures.split in
    record {
      kept = split.1;
      under = subst (AllByRecursion (UpTo c.self.inside.last)) (sym split.0) c.self.invariant.under;
    }

pub returns-clause-entries : goal.returns-clause-entries
returns-clause-entries c = (split_keeps _ _ _ _ c.self.invariant.kept c.in_ok-split.ensures.split).0
    ∙ ap (λ (s : Sorted). s.entries) c.self.view_is

pub returns-clause-room : goal.returns-clause-room
returns-clause-room c =
    room_given _ (split_keeps _ _ _ _ c.self.invariant.kept c.in_ok-split.ensures.split).2
