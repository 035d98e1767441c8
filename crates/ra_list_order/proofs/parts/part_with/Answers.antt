use Rattle.std.proofs.Common.{◌+◌, arith}
use Rattle.ra_list_order.proofs.Spans.{part_is, part_flipped}
use Rattle.ra_list_order.proofs.parts.part_with.Goals as goal

pub returns-then-first-last : goal.returns-then-first-last
returns-then-first-last c =
    part_is c.args.elements.now c.position_of-first.result c.position_of-last.result c.args.one c.args.other
    c.if-first-last.true c.position_of-last.ensures.within c.position_of-first.ensures.there
    c.position_of-last.ensures.there

pub returns-else-first-last : goal.returns-else-first-last
returns-else-first-last c =
    let less = c.if-first-last.false in
    part_flipped c.args.elements.now c.args.one c.args.other c.position_of-last.result (c.position_of-first.result + 1)
    (part_is c.args.elements.now c.position_of-last.result c.position_of-first.result c.args.other c.args.one
    (omega (arith, less)) c.position_of-first.ensures.within c.position_of-last.ensures.there
    c.position_of-first.ensures.there)
