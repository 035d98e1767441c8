use Rattle.ra_time_order.proofs.Places.{place_found, place_past_all}
use Rattle.ra_time_order.proofs.time_order.TimeOrderNamedOrder.place.Goals as goal

pub returns-then-is_past_all : goal.returns-then-is_past_all
returns-then-is_past_all c = λ past next stands comes.
    place_past_all c.self.inside.sorted c.self.inside.replicas _ c.self.view_is _ _ past next stands comes _
    c.len.ensures (c.is_past_all.ensures c.if-is_past_all.true)

pub returns : goal.returns
returns c = λ past next stands comes.
    place_found c.self.inside.sorted c.self.inside.replicas _ c.self.view_is _ _ _ _ c.greatest-greatest.ensures
    c.unwrap_or-rank.ensures past next stands comes _ _ c.position.ensures.split c.is_at_most.ensures.not_above
